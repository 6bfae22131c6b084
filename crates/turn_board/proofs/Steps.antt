-- Each step of a pass on a word keeps the rule of a board.
use Rattle.std.proofs.Common.{Bool, true, false, ◌%◌, ◌^◌, ◌≡◌, ◌≢◌, ℕ, ◌+◌, ◌<◌, ◌≤◌, ◌==◌, List, [], ◌∷◌, ◌++◌, length, set, slice_index, refl, sym, subst, ap, ◌∙◌, ⊎_elim, arith, length-append, ne_eqb}
use Rattle.std.specs.Prelude.{Option, Some, None}
use Rattle.std.specs.List.{AllByRecursion}
use mathlib.Core.Logic.{dite}
use native.Mathlib.Decide.{ℕ_discrete}
use prog.Atomic.{either}
use mathlib.Core.Option.{none, some}
use lib.ListN.{get_elem?}
use Rattle.atomic_table.specs.Table.{State, Me, Act, Allows, Valid, stepped, carried_after, keeps, takes, gives}
use Rattle.atomic_table.proofs.Lists.{at_set, set_here}
use Rattle.turn_board.specs.History.{Fits, BoardHistory, IsHeld}
use Rattle.turn_board.specs.Plays.{Counts, Tries, Adds, MayAdd, Gives}
use Rattle.turn_board.specs.Views.{HasSeen, counted, tried, turning, grown, idle}
use Rattle.turn_board.specs.declared.view.View.{View}
use Rattle.turn_board.proofs.Prefixes.{prefix_length, seen_all, seen_more, all_more, all_both}
use Rattle.turn_board.proofs.ViewLists.{Alike, at_length, set_distinct, set_apart, set_holder, set_dealer}

module _ {S E : Type 0} (entries : S → List E) (maker : E → ℕ) (label_of : S → List ℕ) (label : List ℕ) (passes : ℕ) where
  abbrev B : State (Option S) (View E) → Type 0
  B s = BoardHistory entries maker label_of label passes s

  -- the entries of the state that was taken last
  abbrev in_hand : List (ℕ × Option S) → List E
  in_hand [] = []
  in_hand (x ∷ xs) = elim x.1 [ Some y ↦ entries y | None ↦ [] ]

  -- one view changed, and all that it was asked for holds
  after : (s : State (Option S) (View E)) (b : BoardHistory entries maker label_of label passes s) (id : ℕ) (v w : View E) →
      get_elem? s.views id ≡ some v → Alike v w → w.given ≡ v.given
      → (log : List E) (turn_word : ℕ) (ws : List ℕ) (hs : List (mathlib.Core.Option.Option (Option S)))
      → ws ≡ length log ∷ turn_word ∷ []
      → (turn_word ≡ 0 → (x : S) × (hs ≡ some (Some x) ∷ []) × (entries x ≡ log) × (label_of x ≡ label))
      → (¬ (turn_word ≡ 0) → hs ≡ none ∷ [])
      → AllByRecursion (λ e. (0 < maker e) × (maker e ≤ b.given)) log
      → (¬ (turn_word ≡ 0) → IsHeld (set s.views id w) turn_word)
      → Fits maker log label passes b.given turn_word w
      → ((k : ℕ) (u : View E) → k ≢ id → get_elem? s.views k ≡ some u → u.is_live ≡ true → Fits maker log label passes b.given turn_word u)
      → BoardHistory entries maker label_of label passes record { words = ws; homes = hs; views = set s.views id w }
  after s b id v w at same counted_same log turn_word ws hs words home out makers holder mine others = record {
    log = log;
    turn_word = turn_word;
    given = b.given;
    words = words;
    home = home;
    out = out;
    granted = b.granted;
    makers = makers;
    holder = holder;
    dealer = set_dealer s.views id v w at same.live counted_same b.given b.dealer;
    views = λ k u e alive. ⊎_elim
        (λ (t : (k ≡ id) × (w ≡ u)). subst (Fits maker log label passes b.given turn_word) t.1 mine)
        (λ (t : (k ≢ id) × (get_elem? s.views k ≡ some u)). others k u t.0 t.1 alive)
        (at_set s.views id k w u e);
    distinct = set_distinct s.views id v w at same b.distinct;
    apart = set_apart s.views id v w at same b.apart;
  }

  -- a load of the count
  pub loads : (slots id : ℕ) (me : Me (Option S) (View E)) → me.0.is_live ≡ true
      → Allows (BoardHistory entries maker label_of label passes) slots id me 0 (λ n. n) (Counts entries maker label_of me)
  loads slots id me live s b wide at small =
      let v : View E = me.0 in
      let w : View E = counted v (slice_index s.words 0) in
      let mine = b.views id v at live in
      let same : Alike v w = record { live = refl; number = refl; joined = refl } in
      let found : slice_index s.words 0 ≡ length b.log = ap (λ (ws : List ℕ). slice_index ws 0) b.words in (
        w,
        keeps,
        tt,
        after s b id v w at same refl b.log b.turn_word _ _ (rw b.words refl) b.home b.out b.makers
            (λ away. set_holder s.views id v w at same b.turn_word (b.holder away))
            record { numbered = mine.numbered; about = mine.about; seen = mine.seen; taken = mine.taken; found = mine.found; joined = mine.joined }
            (λ k u away here alive. b.views k u here alive),
        record {
          hand = refl;
          view = refl;
          within = (let p = prefix_length v.seen b.log mine.seen.begins in omega arith);
          whole = λ turn. found
              ∙ ap length (sym (mine.taken turn).1);
        },
      )

  abbrev Goes : State (Option S) (View E) → ℕ → Me (Option S) (View E) → ℕ → Type 0
  Goes s id me m = (w : View E) × (a : Act (Option S)) × Valid s.homes me.1 a
      × BoardHistory entries maker label_of label passes (stepped s 1 (either (m == 0) (me.0.number + 1) m) id me.1 w a)
      × Tries entries maker label_of me m (w, carried_after me.1 a)

  -- the turn is free
  took : (s : State (Option S) (View E)) (b : BoardHistory entries maker label_of label passes s) (id : ℕ) (me : Me (Option S) (View E)) →
      get_elem? s.views id ≡ some me.0 → me.0.is_live ≡ true
      → b.turn_word ≡ 0 → Goes s id me 0
  took s b id me at live free =
      let v : View E = me.0 in
      let mine = b.views id v at live in
      let h = b.home free in
      let x : S = h.0 in
      let w : View E = turning v (v.tries + 1) (entries x) in
      let alike : Alike v w = record { live = refl; number = refl; joined = refl } in
      let same : entries x ≡ b.log = h.2 in (
        w,
        takes 0 (Some x),
        rw h.1 refl,
        after s b id v w at alike refl b.log (v.number + 1) _ _ (rw b.words refl) (λ z. absurd (omega arith)) (λ z. rw h.1 refl) b.makers
            (λ away. (id, w, set_here s.views id w (at_length s.views id v at), live, refl))
            record {
              numbered = mine.numbered;
              about = mine.about;
              seen = rw same (seen_all maker v.number b.log);
              taken = λ z. (refl, same);
              found = λ z. refl;
              joined = mine.joined;
            }
            (λ k u away here alive.
            let other = b.views k u here alive in
            record {
              numbered = other.numbered;
              about = other.about;
              seen = other.seen;
              taken = λ z. let p = (other.taken z).0 in absurd (omega (arith, free));
              found = λ z. absurd (away (b.distinct k id u v here at alive live (omega arith)));
              joined = other.joined;
            }),
        (x, refl, record { about = h.3 ∙ sym mine.about.0; seen = rw same mine.seen }, refl),
      )

  -- another pass has the turn
  missed : (s : State (Option S) (View E)) (b : BoardHistory entries maker label_of label passes s) (id : ℕ) (me : Me (Option S) (View E)) →
      get_elem? s.views id ≡ some me.0 → me.0.is_live ≡ true → me.0.has_turn ≡ false
      → b.turn_word ≢ 0 → Goes s id me b.turn_word
  missed s b id me at live idle busy =
      let v : View E = me.0 in
      let mine = b.views id v at live in
      let w : View E = tried v b.turn_word in
      let alike : Alike v w = record { live = refl; number = refl; joined = refl } in
      let h = b.holder busy in
      let theirs = b.views h.0 h.1 h.2 h.3 in
      rw (ne_eqb b.turn_word 0 busy) (
        w,
        keeps,
        tt,
        after s b id v w at alike refl b.log b.turn_word _ _ (rw b.words refl) b.home b.out b.makers
            (λ away. set_holder s.views id v w at alike b.turn_word (b.holder away))
            record { numbered = mine.numbered; about = mine.about; seen = mine.seen; taken = mine.taken; found = mine.found; joined = mine.joined }
            (λ k u away here alive. b.views k u here alive),
        (refl, refl, (λ z. let p = mine.found z in absurd cc), omega (arith, h.4, theirs.numbered, b.granted, mine.about.1)),
      )

  -- one try of the turn word
  pub tries : (slots id : ℕ) (me : Me (Option S) (View E)) → me.0.is_live ≡ true → me.0.has_turn ≡ false
      → Allows (BoardHistory entries maker label_of label passes) slots id me 1 (λ n. either (n == 0) (me.0.number + 1) n)
      (Tries entries maker label_of me)
  tries slots id me live idle s b wide at small =
      let n : slice_index s.words 1 ≡ b.turn_word = ap (λ (ws : List ℕ). slice_index ws 1) b.words in
      subst (Goes s id me) (sym n) (dite (ℕ_discrete b.turn_word 0)
      (λ free. subst (Goes s id me) (sym free) (took s b id me at live free))
      (λ busy. missed s b id me at live idle busy))

  -- the pass with the turn adds one entry of its own
  pub adds : (slots id : ℕ) (me : Me (Option S) (View E)) (x : S) (e : E) → me.0.is_live ≡ true → me.0.has_turn ≡ true → me.1 ≡ (0, Some x) ∷ []
      → entries x ≡ me.0.seen ++ e ∷ [] → maker e ≡ me.0.number + 1 → length (entries x) < 2 ^ 64
      → Allows (BoardHistory entries maker label_of label passes) slots id me 0 (λ n. (n + 1) % 2 ^ 64) (λ _. Adds entries maker label_of me)
  adds slots id me x e live turn hand grows named short s b wide at small =
      let v : View E = me.0 in
      let mine = b.views id v at live in
      let has = mine.taken turn in
      let log : List E = b.log ++ e ∷ [] in
      let same : entries x ≡ log = rw (sym has.1) grows in
      let w : View E = grown v (entries x) in
      let alike : Alike v w = record { live = refl; number = refl; joined = refl } in
      let n : slice_index s.words 0 ≡ length b.log = ap (λ (ws : List ℕ). slice_index ws 0) b.words in
      let longer : length (entries x) ≡ length b.log + 1 = ap length same ∙ length-append b.log (e ∷ []) in
      let fits : (length b.log + 1) % 2 ^ 64 ≡ length log = omega (arith, length-append b.log (e ∷ [])) in
      let not_theirs : (j : ℕ) (u : View E) → get_elem? s.views j ≡ some u → u.is_live ≡ true →
      AllByRecursion (λ p. (p.number < b.given) × HasSeen maker p.number p.seen log) u.joined = λ j u here alive.
      all_both (λ p. ¬ (p.number ≡ v.number)) (λ p. (p.number < b.given) × HasSeen maker p.number p.seen b.log)
      (λ p. (p.number < b.given) × HasSeen maker p.number p.seen log) u.joined
      (λ p apart h. (h.0, seen_more maker p.number p.seen b.log e h.1 (λ z. apart (omega arith))))
      (b.apart j id u v here at alive live) (b.views j u here alive).joined in (
        w,
        keeps,
        tt,
        after s b id v w at alike refl log b.turn_word _ _ (rw b.words (ap (λ (k : ℕ). k ∷ b.turn_word ∷ []) fits))
            (λ z. absurd (let p = has.0 in omega arith)) b.out
            (all_more (λ f. (0 < maker f) × (maker f ≤ b.given)) e b.log b.makers (omega arith, (let q = mine.numbered in omega arith)))
            (λ away. set_holder s.views id v w at alike b.turn_word (b.holder away))
            record {
              numbered = mine.numbered;
              about = mine.about;
              seen = rw same (seen_all maker v.number log);
              taken = λ z. (has.0, same);
              found = λ z. turn;
              joined = not_theirs id v at live;
            }
            (λ k u away here alive.
            let other = b.views k u here alive in
            record {
              numbered = other.numbered;
              about = other.about;
              seen = seen_more maker u.number u.seen b.log e other.seen (λ z. absurd (away (b.distinct k id u v here at alive live (omega arith))));
              taken = λ z. let p = (other.taken z).0 in let q = has.0 in absurd (away (b.distinct k id u v here at alive live (omega arith)));
              found = other.found;
              joined = not_theirs k u here alive;
            }),
        (λ y hand'. (refl, ap (λ (l : List E). grown v l) (ap in_hand (sym hand ∙ hand')))),
      )

  -- the pass with the turn gives it back, with the state that it has seen
  pub gives_back : (slots id : ℕ) (me : Me (Option S) (View E)) (x : S) → me.0.is_live ≡ true → me.0.has_turn ≡ true → me.1 ≡ (0, Some x) ∷ []
      → entries x ≡ me.0.seen → label_of x ≡ me.0.label
      → Allows (BoardHistory entries maker label_of label passes) slots id me 1 (λ _. 0) (λ _. Gives entries maker label_of me)
  gives_back slots id me x live turn hand same about s b wide at small =
      let v : View E = me.0 in
      let mine = b.views id v at live in
      let has = mine.taken turn in
      let w : View E = idle v in
      let alike : Alike v w = record { live = refl; number = refl; joined = refl } in
      let held : ¬ (b.turn_word ≡ 0) = λ z. let p = has.0 in omega arith in (
        w,
        gives,
        tt,
        after s b id v w at alike refl b.log 0 _ _ (rw b.words refl)
            (λ z. (x, rw (hand, b.out held) refl, same ∙ has.1, about ∙ mine.about.0)) (λ z. absurd (z refl)) b.makers
            (λ away. absurd (away refl))
            record {
              numbered = mine.numbered;
              about = mine.about;
              seen = mine.seen;
              taken = λ z. absurd cc;
              found = λ z. absurd (omega arith);
              joined = mine.joined;
            }
            (λ k u away here alive.
            let other = b.views k u here alive in
            record {
              numbered = other.numbered;
              about = other.about;
              seen = other.seen;
              taken = λ z. let p = (other.taken z).0 in let q = has.0 in absurd (away (b.distinct k id u v here at alive live (omega arith)));
              found = λ z. absurd (omega arith);
              joined = other.joined;
            }),
        (rw hand refl, refl),
      )

  pub joins : (slots id : ℕ) (me : Me (Option S) (View E)) (grows : Bool) → grows ≡ true → me.0.is_live ≡ true → me.0.has_turn ≡ true →
      MayAdd entries maker label_of me grows
      → Allows (BoardHistory entries maker label_of label passes) slots id me 0 (λ n. (n + 1) % 2 ^ 64) (λ _. Adds entries maker label_of me)
  joins slots id me grows is live turn h = let m = subst (λ (c : Bool). MayAdd entries maker label_of me c) is h in
      adds slots id me m.0 m.3.0 live turn m.1 m.3.1 m.3.2 m.2
