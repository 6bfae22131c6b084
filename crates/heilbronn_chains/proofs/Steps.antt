-- The member after a member, and the one before.
use Rattle.std.proofs.Common.{◌≡◌, ◌≢◌, ◌+◌, ◌*◌, ◌-◌, ◌/◌, ◌%◌, ◌<◌, ℕ, zero, suc, refl, sym, ◌∙◌, ap, subst, arith}
use Rattle.std.specs.Prelude.{ℤ, pos, negsuc, ◌-ℤ◌, ◌*ℤ◌, ◌<ℤ◌, ◌≤ℤ◌}
use Rattle.std.proofs.Math.Nat.{div-add-mod, mod-lt}
use Rattle.std.proofs.lemmas.Int.{ints}
use Rattle.p1_normal.specs.declared.matrix.Matrix.{Matrix}
use Rattle.p1_normal.specs.Actions.{matrix}
use Rattle.heilbronn_sets.specs.Merel.{IsMerel}
use Rattle.heilbronn_sets.proofs.Entries.{AreEntries}
use Rattle.heilbronn_sets.proofs.Members.{member_entries}
use Rattle.heilbronn_chains.specs.Lattice.{InLattice, SameLattice}
use Rattle.heilbronn_chains.specs.Chains.{Follows}
use Rattle.heilbronn_chains.specs.Turns.{StepsBack}
use Rattle.heilbronn_chains.proofs.ColumnSteps.{SameLattice-step_back, SameLattice_sym, SameLattice_trans}
use Rattle.heilbronn_chains.proofs.Hermite.{cancelled}

-- the entries of the member after (a, b, c, d), by the least q with d <= q c
pub after_entries : (n a b c d q x y : ℕ) → AreEntries n a b c d → x + b ≡ q * a → y + d ≡ q * c → y < c → AreEntries n x a y c
after_entries n a b c d zero x y h e f l = absurd (omega (arith, f, h.right))
after_entries n a b c d (suc zero) x y h e f l = absurd (omega (arith, f, h.right))
after_entries n a b c d (suc (suc q)) x y h e f l = record {
  left = omega (arith, e, h.left);
  right = l;
  value = omega (arith, ap (λ z. z * c) e, ap (λ z. a * z) f, h.value);
}

-- the entries of the member before, by the least q with a <= q b
pub before_entries : (n a b c d q x y : ℕ) → AreEntries n a b c d → x + a ≡ q * b → y + c ≡ q * d → x < b → AreEntries n b x d y
before_entries n a b c d zero x y h e f l = absurd (omega (arith, e, h.left))
before_entries n a b c d (suc zero) x y h e f l = absurd (omega (arith, e, h.left))
before_entries n a b c d (suc (suc q)) x y h e f l = record {
  left = l;
  right = omega (arith, f, h.right);
  value = omega (arith, ap (λ z. z * d) e, ap (λ z. b * z) f, h.value);
}

pub merel_entries : (n a b c d : ℕ) → AreEntries n a b c d → IsMerel n (matrix (pos a) (pos b) (pos c) (pos d))
merel_entries n a b c d h = record {
  left = omega (arith, ints, h.left);
  right = omega (arith, ints, h.right);
  upper = omega (arith, ints);
  lower = omega (arith, ints);
  determinant_is = omega (arith, ints, h.value);
}

-- the lattice of the member after
SameLattice-after : (n a b c d q x y : ℕ) → x + b ≡ q * a → y + d ≡ q * c →
    SameLattice n (matrix (pos a) (pos b) (pos c) (pos d)) (matrix (pos x) (pos a) (pos y) (pos c))
SameLattice-after n a b c d q x y e f =
    let upper : (pos q *ℤ pos a) -ℤ pos x ≡ pos b = omega (arith, ints, e) in
    let lower : (pos q *ℤ pos c) -ℤ pos y ≡ pos d = omega (arith, ints, f) in
    SameLattice_sym n (matrix (pos x) (pos a) (pos y) (pos c)) (matrix (pos a) (pos b) (pos c) (pos d))
    (subst (λ z. SameLattice n (matrix (pos x) (pos a) (pos y) (pos c)) (matrix (pos a) (pos b) (pos c) z)) lower
    (subst (λ z. SameLattice n (matrix (pos x) (pos a) (pos y) (pos c)) (matrix (pos a) z (pos c) ((pos q *ℤ pos c) -ℤ pos y))) upper
    (SameLattice-step_back n (pos q) (matrix (pos x) (pos a) (pos y) (pos c)))))

pub Follows-after : (n a b c d q x y : ℕ) → AreEntries n a b c d → x + b ≡ q * a → y + d ≡ q * c → y < c →
    Follows n (matrix (pos a) (pos b) (pos c) (pos d)) (matrix (pos x) (pos a) (pos y) (pos c))
Follows-after n a b c d q x y h e f l = record {
  is_member = merel_entries n x a y c (after_entries n a b c d q x y h e f l);
  lattice = SameLattice-after n a b c d q x y e f;
  upper = refl;
  lower = refl;
}

-- the first column of a matrix is in its lattice
corner_in : (n x a y c : ℕ) → AreEntries n x a y c → InLattice n (matrix (pos x) (pos a) (pos y) (pos c)) (pos x) (pos y)
corner_in n x a y c h = record {
  first = record { quotient = pos 1; product = omega (arith, ints, h.value) };
  second = record { quotient = pos 0; product = omega (arith, ints) };
}

-- the first column of a member after is determined
corner_out : (n x y x' y' a c : ℕ) → 0 < n → AreEntries n x a y c → AreEntries n x' a y' c →
    InLattice n (matrix (pos x') (pos a) (pos y') (pos c)) (pos x) (pos y) → y ≡ y'
corner_out n x y x' y' a c some h h' i = from i.second.quotient i.second.product
  where
    from : (q : ℤ) → q *ℤ pos n ≡ (pos x' *ℤ pos y) -ℤ (pos y' *ℤ pos x) → y ≡ y'
    from (pos k) f =
        let g : k * n + y' * x ≡ x' * y = omega (arith, ints, f) in
        let whole : n * (k * c + y') ≡ n * y = omega (arith, ap (λ z. c * z) g, ap (λ z. y' * z) h.value, ap (λ z. y * z) h'.value) in
        low k (cancelled n (k * c + y') y some whole)
      where
        low : (k : ℕ) → k * c + y' ≡ y → y ≡ y'
        low zero e = omega (arith, e)
        low (suc k) e = absurd (omega (arith, e, h.right))
    from (negsuc k) f =
        let g : suc k * n + x' * y ≡ y' * x = omega (arith, ints, f) in
        let whole : n * (suc k * c + y) ≡ n * y' = omega (arith, ap (λ z. c * z) g, ap (λ z. y' * z) h.value, ap (λ z. y * z) h'.value) in
        absurd (omega (arith, cancelled n (suc k * c + y) y' some whole, h'.right))

-- at most one member follows
after_same : (n x y x' y' a c : ℕ) → 0 < n → AreEntries n x a y c → AreEntries n x' a y' c →
    SameLattice n (matrix (pos x) (pos a) (pos y) (pos c)) (matrix (pos x') (pos a) (pos y') (pos c)) → (x ≡ x') × (y ≡ y')
after_same n x y x' y' a c some h h' same =
    let low : y ≡ y' = corner_out n x y x' y' a c some h h' ((same (pos x) (pos y)).0 (corner_in n x a y c h)) in
    let more : 0 < c = omega (arith, h.right) in
    (cancelled c x x' more (omega (arith, h.value, h'.value, ap (λ z. a * z) low)), low)

pub Follows_unique : (n : ℕ) (m k l : Matrix) → 0 < n → Follows n m k → Follows n m l → k ≡ l
Follows_unique n m k l some g h =
    let x = member_entries n k g.is_member in
    let y = member_entries n l h.is_member in
    let same : SameLattice n k l = SameLattice_trans n k m l (SameLattice_sym n m k g.lattice) h.lattice in
    let both : SameLattice n (matrix (pos x.a) (pos x.b) (pos x.c) (pos x.d)) (matrix (pos y.a) (pos y.b) (pos y.c) (pos y.d)) =
    subst (λ w. SameLattice n w (matrix (pos y.a) (pos y.b) (pos y.c) (pos y.d))) x.is (subst (SameLattice n k) y.is same) in
    let upper : x.b ≡ y.b = same_natural x.b y.b (sym (ap (λ w. w.b) x.is) ∙ g.upper ∙ sym h.upper ∙ ap (λ w. w.b) y.is) in
    let lower : x.d ≡ y.d = same_natural x.d y.d (sym (ap (λ w. w.d) x.is) ∙ g.lower ∙ sym h.lower ∙ ap (λ w. w.d) y.is) in
    let e : AreEntries n x.a y.b x.c y.d = subst (λ z. AreEntries n x.a z x.c y.d) upper (subst (λ z. AreEntries n x.a x.b x.c z) lower x.entries) in
    let one : SameLattice n (matrix (pos x.a) (pos y.b) (pos x.c) (pos y.d)) (matrix (pos y.a) (pos y.b) (pos y.c) (pos y.d)) =
    subst (λ z. SameLattice n (matrix (pos x.a) (pos z) (pos x.c) (pos y.d)) (matrix (pos y.a) (pos y.b) (pos y.c) (pos y.d))) upper
    (subst (λ z. SameLattice n (matrix (pos x.a) (pos x.b) (pos x.c) (pos z)) (matrix (pos y.a) (pos y.b) (pos y.c) (pos y.d))) lower both) in
    let (first, second) = after_same n x.a x.c y.a y.c y.b y.d some e y.entries one in
    x.is ∙ (λ t. matrix (pos (first t)) (pos (upper t)) (pos (second t)) (pos (lower t))) ∙ sym y.is
  where
    same_natural : (i j : ℕ) → pos i ≡ pos j → i ≡ j
    same_natural i j e = omega (arith, ints, e)

-- the second column of a matrix is in its lattice
second_in : (n b x d y : ℕ) → AreEntries n b x d y → InLattice n (matrix (pos b) (pos x) (pos d) (pos y)) (pos x) (pos y)
second_in n b x d y h = record {
  first = record { quotient = pos 0; product = omega (arith, ints) };
  second = record { quotient = pos 1; product = omega (arith, ints, h.value) };
}

-- the second column of a member before is determined
second_out : (n x y x' y' b d : ℕ) → 0 < n → AreEntries n b x d y → AreEntries n b x' d y' →
    InLattice n (matrix (pos b) (pos x') (pos d) (pos y')) (pos x) (pos y) → x ≡ x'
second_out n x y x' y' b d some h h' i = from i.first.quotient i.first.product
  where
    from : (q : ℤ) → q *ℤ pos n ≡ (pos y' *ℤ pos x) -ℤ (pos x' *ℤ pos y) → x ≡ x'
    from (pos k) f =
        let g : k * n + x' * y ≡ y' * x = omega (arith, ints, f) in
        let whole : n * (k * b + x') ≡ n * x = omega (arith, ap (λ z. b * z) g, ap (λ z. x' * z) h.value, ap (λ z. x * z) h'.value) in
        low k (cancelled n (k * b + x') x some whole)
      where
        low : (k : ℕ) → k * b + x' ≡ x → x ≡ x'
        low zero e = omega (arith, e)
        low (suc k) e = absurd (omega (arith, e, h.left))
    from (negsuc k) f =
        let g : suc k * n + y' * x ≡ x' * y = omega (arith, ints, f) in
        let whole : n * (suc k * b + x) ≡ n * x' = omega (arith, ap (λ z. b * z) g, ap (λ z. x' * z) h.value, ap (λ z. x * z) h'.value) in
        absurd (omega (arith, cancelled n (suc k * b + x) x' some whole, h'.left))

before_same : (n x y x' y' b d : ℕ) → 0 < n → AreEntries n b x d y → AreEntries n b x' d y' →
    SameLattice n (matrix (pos b) (pos x) (pos d) (pos y)) (matrix (pos b) (pos x') (pos d) (pos y')) → (x ≡ x') × (y ≡ y')
before_same n x y x' y' b d some h h' same =
    let upper : x ≡ x' = second_out n x y x' y' b d some h h' ((same (pos x) (pos y)).0 (second_in n b x d y h)) in
    let more : 0 < b = omega (arith, h.left) in
    (upper, cancelled b y y' more (omega (arith, h.value, h'.value, ap (λ z. z * d) upper)))

-- at most one member is followed by m
pub followed_unique : (n : ℕ) (m k l : Matrix) → 0 < n → IsMerel n k → IsMerel n l → Follows n k m → Follows n l m → k ≡ l
followed_unique n m k l some is_k is_l g h =
    let x = member_entries n k is_k in
    let y = member_entries n l is_l in
    let same : SameLattice n k l = SameLattice_trans n k m l g.lattice (SameLattice_sym n l m h.lattice) in
    let both : SameLattice n (matrix (pos x.a) (pos x.b) (pos x.c) (pos x.d)) (matrix (pos y.a) (pos y.b) (pos y.c) (pos y.d)) =
    subst (λ w. SameLattice n w (matrix (pos y.a) (pos y.b) (pos y.c) (pos y.d))) x.is (subst (SameLattice n k) y.is same) in
    let upper : x.a ≡ y.a = same_natural x.a y.a (sym (ap (λ w. w.a) x.is) ∙ sym g.upper ∙ h.upper ∙ ap (λ w. w.a) y.is) in
    let lower : x.c ≡ y.c = same_natural x.c y.c (sym (ap (λ w. w.c) x.is) ∙ sym g.lower ∙ h.lower ∙ ap (λ w. w.c) y.is) in
    let e : AreEntries n y.a x.b y.c x.d = subst (λ z. AreEntries n z x.b y.c x.d) upper (subst (λ z. AreEntries n x.a x.b z x.d) lower x.entries) in
    let one : SameLattice n (matrix (pos y.a) (pos x.b) (pos y.c) (pos x.d)) (matrix (pos y.a) (pos y.b) (pos y.c) (pos y.d)) =
    subst (λ z. SameLattice n (matrix (pos z) (pos x.b) (pos y.c) (pos x.d)) (matrix (pos y.a) (pos y.b) (pos y.c) (pos y.d))) upper
    (subst (λ z. SameLattice n (matrix (pos x.a) (pos x.b) (pos z) (pos x.d)) (matrix (pos y.a) (pos y.b) (pos y.c) (pos y.d))) lower both) in
    let (first, second) = before_same n x.b x.d y.b y.d y.a y.c some e y.entries one in
    x.is ∙ (λ t. matrix (pos (upper t)) (pos (first t)) (pos (lower t)) (pos (second t))) ∙ sym y.is
  where
    same_natural : (i j : ℕ) → pos i ≡ pos j → i ≡ j
    same_natural i j e = omega (arith, ints, e)

-- ---- the least multiple of c at or above d
pub record Ceiling (c d : ℕ) : Type 0 where
  pub quotient : ℕ
  pub rest : ℕ
  pub is : rest + d ≡ quotient * c
  pub below : rest < c

pub ceiling : (c d : ℕ) → 0 < c → Ceiling c d
ceiling c d some =
    let low : (d + c - 1) % c < c = mod-lt (d + c - 1) some in
    from ((d + c - 1) / c) ((d + c - 1) % c) (div-add-mod (d + c - 1) c) low
  where
    from : (q r : ℕ) → c * q + r ≡ d + c - 1 → r < c → Ceiling c d
    from q r e l = record { quotient = q; rest = c - 1 - r; is = omega (arith, e, l, some); below = omega (arith, l) }

-- ---- the member after, and the member before
pub record HasAfter (n : ℕ) (m : Matrix) : Type 0 where
  pub after : Matrix
  pub follows : Follows n m after

pub has_after : (n : ℕ) (m : Matrix) → IsMerel n m → m.c ≢ pos 0 → HasAfter n m
has_after n m h more =
    let e = member_entries n m h in
    subst (HasAfter n) (sym e.is) (from e.a e.b e.c e.d e.entries (some e.c (λ z. more (ap (λ w. w.c) e.is ∙ ap pos z))))
  where
    some : (c : ℕ) → (c ≡ 0 → ⊥) → 0 < c
    some zero f = absurd (f refl)
    some (suc c) f = omega arith

    from : (a b c d : ℕ) → AreEntries n a b c d → 0 < c → HasAfter n (matrix (pos a) (pos b) (pos c) (pos d))
    from a b c d e l =
        let v = ceiling c d l in
        let x = v.quotient * a - b in
        record {
          after = matrix (pos x) (pos a) (pos v.rest) (pos c);
          follows =
              Follows-after n a b c d v.quotient x v.rest e (whole v.quotient v.rest v.is) v.is v.below;
        }
      where
        whole : (q y : ℕ) → y + d ≡ q * c → q * a - b + b ≡ q * a
        whole zero y f = absurd (omega (arith, f, e.right))
        whole (suc q) y f = omega (arith, e.left)

-- the member before, by the least q with a <= q b
pub record HasBefore (n : ℕ) (m : Matrix) : Type 0 where
  pub before : Matrix
  pub is_member : IsMerel n before
  pub follows : Follows n before m
  pub falls : before.b <ℤ m.b
  pub steps_back : StepsBack m before

pub has_before : (n : ℕ) (m : Matrix) → IsMerel n m → m.b ≢ pos 0 → HasBefore n m
has_before n m h more =
    let e = member_entries n m h in
    subst (HasBefore n) (sym e.is) (from e.a e.b e.c e.d e.entries (some e.b (λ z. more (ap (λ w. w.b) e.is ∙ ap pos z))))
  where
    some : (c : ℕ) → (c ≡ 0 → ⊥) → 0 < c
    some zero f = absurd (f refl)
    some (suc c) f = omega arith

    from : (a b c d : ℕ) → AreEntries n a b c d → 0 < b → HasBefore n (matrix (pos a) (pos b) (pos c) (pos d))
    from a b c d e l =
        let v = ceiling b a l in
        let y = v.quotient * d - c in
        let lower : y + c ≡ v.quotient * d = whole v.quotient v.rest v.is in
        let upper : (pos v.quotient *ℤ pos b) -ℤ pos a ≡ pos v.rest = omega (arith, ints, v.is) in
        let corner : (pos v.quotient *ℤ pos d) -ℤ pos c ≡ pos y = omega (arith, ints, lower) in
        let m = matrix (pos a) (pos b) (pos c) (pos d) in
        let k = matrix (pos b) (pos v.rest) (pos d) (pos y) in
        let same : SameLattice n m k = subst (λ z. SameLattice n m (matrix (pos b) (pos v.rest) (pos d) z)) corner
        (subst (λ z. SameLattice n m (matrix (pos b) z (pos d) ((pos v.quotient *ℤ pos d) -ℤ pos c))) upper
        (SameLattice-step_back n (pos v.quotient) m)) in
        record {
          before = k;
          is_member = merel_entries n b v.rest d y (before_entries n a b c d v.quotient v.rest y e v.is lower v.below);
          follows = record { is_member = merel_entries n a b c d e; lattice = SameLattice_sym n m k same; upper = refl; lower = refl };
          falls = omega (arith, ints, v.below);
          steps_back = record {
            quotient = v.quotient;
            covers = omega (arith, ints, v.is);
            least = omega (arith, ints, v.is, v.below);
            is = λ t. matrix (pos b) (upper_sym v.quotient v.rest v.is t) (pos d) (lower_sym v.quotient y lower t);
          };
        }
      where
        whole : (q y : ℕ) → y + a ≡ q * b → q * d - c + c ≡ q * d
        whole zero y f = absurd (omega (arith, f, e.left))
        whole (suc q) y f = omega (arith, e.right)

        upper_sym : (q x : ℕ) → x + a ≡ q * b → pos x ≡ (pos q *ℤ pos b) -ℤ pos a
        upper_sym q x f = omega (arith, ints, f)

        lower_sym : (q y : ℕ) → y + c ≡ q * d → pos y ≡ (pos q *ℤ pos d) -ℤ pos c
        lower_sym q y f = omega (arith, ints, f)

-- and so by the matrix that it follows
pub steps_back : (n : ℕ) (m k : Matrix) → 0 < n → IsMerel n k → Follows n k m → StepsBack m k
steps_back n m k some h f =
    let b = has_before n m f.is_member (λ e. last k.b k.a h.upper h.left (sym f.upper ∙ e)) in
    subst (StepsBack m) (followed_unique n m b.before k some b.is_member h b.follows f) b.steps_back
  where
    last : (y x : ℤ) → pos 0 ≤ℤ y → y <ℤ x → x ≡ pos 0 → ⊥
    last y x l u e = omega (arith, ints, l, u, e)

-- b falls at a step back: it becomes the b of the member before, which is below its a
pub falls_back : (n : ℕ) (m k : Matrix) → IsMerel n k → Follows n k m → k.b <ℤ m.b
falls_back n m k h f = subst (λ z. k.b <ℤ z) (sym f.upper) h.left
