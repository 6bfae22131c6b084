-- Splitting a pass and joining two keeps the rule of a board.
use Rattle.std.proofs.Common.{Bool, true, false, ◌≡◌, ◌≢◌, ◌⊎◌, ℕ, ◌+◌, ◌<◌, ◌≤◌, List, [], ◌∷◌, length, set, refl, sym, subst, ap, ◌∙◌, ⊎_elim, arith}
use Rattle.std.specs.Prelude.{Option, nat_lt, if◌then◌else◌}
use Rattle.std.specs.List.{AllByRecursion}
use mathlib.Core.Option.{some, some-injective}
use lib.ListN.{get_elem?}
use Rattle.atomic_table.specs.Table.{State, Splits, Joins}
use Rattle.atomic_table.proofs.Lists.{at_set, set_here, set_else, at_longer}
use Rattle.turn_board.specs.History.{Fits, BoardHistory, AreDistinct, AreApart}
use Rattle.turn_board.specs.Views.{HasSeen, dealt, next_view, past_of, absorbed, merged, spent_view}
use Rattle.turn_board.specs.declared.view.View.{View}
use Rattle.turn_board.proofs.Prefixes.{seen_none, all_map, all_append}
use Rattle.turn_board.proofs.ViewLists.{Alike, at_length, set_distinct, set_apart, set_holder, at_snoc, at_joined}

module _ {S E : Type 0} (entries : S → List E) (maker : E → ℕ) (label_of : S → List ℕ) (label : List ℕ) (passes : ℕ) where
  -- one number more was given
  more_given : (log : List E) (given turn_word : ℕ) (u : View E) → Fits maker log label passes given turn_word u →
      Fits maker log label passes (given + 1) turn_word u
  more_given log given turn_word u h = record {
    numbered = (let n = h.numbered in omega arith);
    about = h.about;
    seen = h.seen;
    taken = h.taken;
    found = h.found;
    joined = all_map (λ p. (p.number < given) × HasSeen maker p.number p.seen log)
        (λ p. (p.number < given + 1) × HasSeen maker p.number p.seen log) u.joined (λ p t. ((let n = t.0 in omega arith), t.1)) h.joined;
  }

  -- the dealer gives the next number to a new pass
  pub deals : (v : View E) → v.is_live ≡ true → v.given < v.passes
      → Splits (BoardHistory entries maker label_of label passes) 0 v (dealt v) (next_view v)
  deals v live room s b at =
      let left : View E = dealt v in
      let right : View E = next_view v in
      let mine = b.views 0 v at live in
      let same : Alike v left = record { live = refl; number = refl; joined = refl } in
      let vs : List (View E) = set s.views 0 left in
      let here = set_here s.views 0 left (at_length s.views 0 v at) in
      let given : v.given ≡ b.given = b.dealer v at live in
      let old : (k : ℕ) (u : View E) → get_elem? vs k ≡ some u → u.is_live ≡ true → Fits maker b.log label passes b.given b.turn_word u =
      λ k u e alive. ⊎_elim
      (λ (t : (k ≡ 0) × (left ≡ u)). subst (Fits maker b.log label passes b.given b.turn_word) t.1
      record { numbered = mine.numbered; about = mine.about; seen = mine.seen; taken = mine.taken; found = mine.found; joined = mine.joined })
      (λ (t : (k ≢ 0) × (get_elem? s.views k ≡ some u)). b.views k u t.1 alive)
      (at_set s.views 0 k left u e) in
      let distinct : AreDistinct vs = set_distinct s.views 0 v left at same b.distinct in
      let apart : AreApart vs = set_apart s.views 0 v left at same b.apart in
      record {
        log = b.log;
        turn_word = b.turn_word;
        given = b.given + 1;
        words = b.words;
        home = b.home;
        out = b.out;
        granted = omega (arith, mine.about.1);
        makers = all_map (λ e. (0 < maker e) × (maker e ≤ b.given)) (λ e. (0 < maker e) × (maker e ≤ b.given + 1)) b.log
            (λ e t. (t.0, (let n = t.1 in omega arith))) b.makers;
        holder = λ away.
            let h = set_holder s.views 0 v left at same b.turn_word (b.holder away) in
            (h.0, h.1, at_longer vs (right ∷ []) h.0 h.1 h.2, h.3, h.4);
        dealer = λ u e alive. ⊎_elim
            (λ (t : get_elem? vs 0 ≡ some u). let it : left ≡ u = some-injective left u (sym here ∙ t) in sym (ap (λ (y : View E). y.given) it)
            ∙ ap (λ n. n + 1) given)
            (λ (t : (0 ≡ length vs) × (right ≡ u)). absurd (let n = at_length vs 0 left here in let m = t.0 in omega arith))
            (at_snoc vs right u 0 e);
        views = λ k u e alive. ⊎_elim
            (λ (t : get_elem? vs k ≡ some u). more_given b.log b.given b.turn_word u (old k u t alive))
            (λ (t : (k ≡ length vs) × (right ≡ u)). subst (Fits maker b.log label passes (b.given + 1) b.turn_word) t.1
            record {
              numbered = omega arith;
              about = mine.about;
              seen = seen_none maker v.given b.given v.seen b.log (omega arith) mine.seen.begins b.makers;
              taken = λ z. absurd cc;
              found = λ z.
                  let h = b.holder (λ none. omega arith) in
                  let n = (b.views h.0 h.1 h.2 h.3).numbered in
                  absurd (omega (arith, h.4));
              joined = tt;
            })
            (at_snoc vs right u k e);
        distinct = λ j k u w eu ew alive living same_number. ⊎_elim
            (λ (t : get_elem? vs j ≡ some u). ⊎_elim
            (λ (r : get_elem? vs k ≡ some w). distinct j k u w t r alive living same_number)
            (λ (r : (k ≡ length vs) × (right ≡ w)). absurd (let n = (old j u t alive).numbered in let m : v.given ≡ w.number =
            ap (λ (y : View E). y.number) r.1 in omega arith))
            (at_snoc vs right w k ew))
            (λ (t : (j ≡ length vs) × (right ≡ u)). ⊎_elim
            (λ (r : get_elem? vs k ≡ some w). absurd (let n = (old k w r living).numbered in let m : v.given ≡ u.number =
            ap (λ (y : View E). y.number) t.1 in omega arith))
            (λ (r : (k ≡ length vs) × (right ≡ w)). t.0 ∙ sym r.0)
            (at_snoc vs right w k ew))
            (at_snoc vs right u j eu);
        apart = λ j k u w eu ew alive living. ⊎_elim
            (λ (t : get_elem? vs j ≡ some u). ⊎_elim
            (λ (r : get_elem? vs k ≡ some w). apart j k u w t r alive living)
            (λ (r : (k ≡ length vs) × (right ≡ w)).
            let m : v.given ≡ w.number = ap (λ (y : View E). y.number) r.1 in
            all_map (λ p. (p.number < b.given) × HasSeen maker p.number p.seen b.log) (λ p. ¬ (p.number ≡ w.number)) u.joined (λ p h z. let n =
            h.0 in omega arith) (old j u t alive).joined)
            (at_snoc vs right w k ew))
            (λ (t : (j ≡ length vs) × (right ≡ u)). subst (λ (y : View E). AllByRecursion (λ p. ¬ (p.number ≡ w.number)) y.joined) t.1 tt)
            (at_snoc vs right u j eu);
      }

  -- of two passes without the turn, the one at xi takes in the other, at yi
  absorbs : (s : State (Option S) (View E)) (b : BoardHistory entries maker label_of label passes s) (id other xi yi : ℕ) (v x y : View E)
      → get_elem? s.views id ≡ some v → v.is_live ≡ true → get_elem? s.views xi ≡ some x → get_elem? s.views yi ≡ some y
      → x.is_live ≡ true → y.is_live ≡ true → x.has_turn ≡ false → y.has_turn ≡ false → yi ≢ xi
      → ((k : ℕ) → k ≢ id → k ≢ other → (k ≢ xi) × (k ≢ yi)) → ((k : ℕ) → k ≢ xi → k ≢ yi → (k ≢ id) × (k ≢ other))
      → BoardHistory entries maker label_of label passes record {
        words = s.words;
        homes = s.homes;
        views =
            set (set s.views id (absorbed x y v.given)) other spent_view;
      }
  absorbs s b id other xi yi v x y at_v live_v at_x at_y live_x live_y idle_x idle_y two away back =
      let c : View E = absorbed x y v.given in
      let vs : List (View E) = set (set s.views id c) other spent_view in
      let fits_x = b.views xi x at_x live_x in
      let fits_y = b.views yi y at_y live_y in
      let at : (k : ℕ) (u : View E) → get_elem? vs k ≡ some u → u.is_live ≡ true →
      ((k ≡ id) × (c ≡ u)) ⊎ ((k ≢ id) × (k ≢ other) × (get_elem? s.views k ≡ some u)) = at_joined s.views id other c spent_view refl in
      -- the joined numbers are not that of a live view
      let joined_apart : (k : ℕ) (u : View E) → get_elem? s.views k ≡ some u → u.is_live ≡ true → k ≢ yi →
      AllByRecursion (λ p. ¬ (p.number ≡ u.number)) c.joined = λ k u e alive far.
      all_append (λ p. ¬ (p.number ≡ u.number)) x.joined (past_of y ∷ y.joined) (b.apart xi k x u at_x e live_x alive)
      ((λ z. far (sym (b.distinct yi k y u at_y e live_y alive z))), b.apart yi k y u at_y e live_y alive) in
      let fits_c : Fits maker b.log label passes b.given b.turn_word c = record {
        numbered = fits_x.numbered;
        about = fits_x.about;
        seen = fits_x.seen;
        taken = fits_x.taken;
        found = fits_x.found;
        joined = all_append (λ p. (p.number < b.given) × HasSeen maker p.number p.seen b.log) x.joined (past_of y ∷ y.joined) fits_x.joined
            ((fits_y.numbered, fits_y.seen), fits_y.joined);
      } in
      record {
        log = b.log;
        turn_word = b.turn_word;
        given = b.given;
        words = b.words;
        home = b.home;
        out = b.out;
        granted = b.granted;
        makers = b.makers;
        holder = λ taken.
            let h = b.holder taken in
            let turn : h.1.has_turn ≡ true = (b.views h.0 h.1 h.2 h.3).found h.4 in
            let far_x : h.0 ≢ xi = λ z. let e : x ≡ h.1 = some-injective x h.1 (sym at_x
            ∙ subst (λ (n : ℕ). get_elem? s.views n ≡ some h.1) z h.2) in let q : x.has_turn ≡ true = ap (λ (y : View E). y.has_turn) e
            ∙ turn in cc in
            let far_y : h.0 ≢ yi = λ z. let e : y ≡ h.1 = some-injective y h.1 (sym at_y
            ∙ subst (λ (n : ℕ). get_elem? s.views n ≡ some h.1) z h.2) in let q : y.has_turn ≡ true = ap (λ (y : View E). y.has_turn) e
            ∙ turn in cc in
            let far = back h.0 far_x far_y in
            (h.0, h.1, set_else (set s.views id c) other h.0 spent_view far.1 ∙ (set_else s.views id h.0 c far.0 ∙ h.2), h.3, h.4);
        dealer = λ u e alive. ⊎_elim
            (λ (t : (0 ≡ id) × (c ≡ u)). sym (ap (λ (y : View E). y.given) t.1)
            ∙ b.dealer v (subst (λ (n : ℕ). get_elem? s.views n ≡ some v) (sym t.0) at_v) live_v)
            (λ (t : (0 ≢ id) × (0 ≢ other) × (get_elem? s.views 0 ≡ some u)). b.dealer u t.2 alive)
            (at 0 u e alive);
        views = λ k u e alive. ⊎_elim
            (λ (t : (k ≡ id) × (c ≡ u)). subst (Fits maker b.log label passes b.given b.turn_word) t.1 fits_c)
            (λ (t : (k ≢ id) × (k ≢ other) × (get_elem? s.views k ≡ some u)). b.views k u t.2 alive)
            (at k u e alive);
        distinct = λ j k u w eu ew alive living same. ⊎_elim
            (λ (t : (j ≡ id) × (c ≡ u)). ⊎_elim
            (λ (r : (k ≡ id) × (c ≡ w)). t.0 ∙ sym r.0)
            (λ (r : (k ≢ id) × (k ≢ other) × (get_elem? s.views k ≡ some w)).
            absurd ((away k r.0 r.1).0 (sym (b.distinct xi k x w at_x r.2 live_x living (ap (λ (y : View E). y.number) t.1 ∙ same)))))
            (at k w ew living))
            (λ (t : (j ≢ id) × (j ≢ other) × (get_elem? s.views j ≡ some u)). ⊎_elim
            (λ (r : (k ≡ id) × (c ≡ w)).
            absurd ((away j t.0 t.1).0 (b.distinct j xi u x t.2 at_x alive live_x (same ∙ sym (ap (λ (y : View E). y.number) r.1)))))
            (λ (r : (k ≢ id) × (k ≢ other) × (get_elem? s.views k ≡ some w)). b.distinct j k u w t.2 r.2 alive living same)
            (at k w ew living))
            (at j u eu alive);
        apart = λ j k u w eu ew alive living. ⊎_elim
            (λ (t : (j ≡ id) × (c ≡ u)). subst (λ (z : View E). AllByRecursion (λ p. ¬ (p.number ≡ w.number)) z.joined) t.1 (⊎_elim
            (λ (r : (k ≡ id) × (c ≡ w)). subst (λ (z : View E). AllByRecursion (λ p. ¬ (p.number ≡ z.number)) c.joined) r.1
            (joined_apart xi x at_x live_x (λ z. two (sym z))))
            (λ (r : (k ≢ id) × (k ≢ other) × (get_elem? s.views k ≡ some w)). joined_apart k w r.2 living (away k r.0 r.1).1)
            (at k w ew living)))
            (λ (t : (j ≢ id) × (j ≢ other) × (get_elem? s.views j ≡ some u)). ⊎_elim
            (λ (r : (k ≡ id) × (c ≡ w)). subst (λ (z : View E). AllByRecursion (λ p. ¬ (p.number ≡ z.number)) u.joined) r.1
            (b.apart j xi u x t.2 at_x alive live_x))
            (λ (r : (k ≢ id) × (k ≢ other) × (get_elem? s.views k ≡ some w)). b.apart j k u w t.2 r.2 alive living)
            (at k w ew living))
            (at j u eu alive);
      }

  -- two passes without the turn are joined
  pub merges : (id other : ℕ) (v w : View E) → v.is_live ≡ true → w.is_live ≡ true → v.has_turn ≡ false → w.has_turn ≡ false
      → Joins (BoardHistory entries maker label_of label passes) id v other w (merged v w) spent_view
  merges id other v w live_v live_w idle_v idle_w s b at two at_other =
      let at_w : get_elem? s.views other ≡ some w = sym (set_else s.views id other (merged v w) two) ∙ at_other in
      choose (nat_lt (length v.seen) (length w.seen)) at_w
    where
      choose : (c : Bool) → get_elem? s.views other ≡ some w
          → BoardHistory entries maker label_of label passes record {
            words = s.words;
            homes = s.homes;
            views =
                set (set s.views id (if c then absorbed w v v.given else absorbed v w v.given)) other spent_view;
          }
      choose true at_w = absorbs s b id other other id v w v at live_v at_w at live_w live_v idle_w idle_v (λ z. two (sym z)) (λ k a o. (o, a))
          (λ k a o. (o, a))
      choose false at_w = absorbs s b id other id other v v w at live_v at at_w live_v live_w idle_v idle_w two (λ k a o. (a, o)) (λ k a o. (a, o))
