-- Sums over chains telescope.
use Rattle.std.proofs.Common.{◌≡◌, ◌≢◌, ◌⊎◌, ℕ, zero, suc, Bool, true, false, List, [], ◌∷◌, refl, sym, ◌∙◌, ap, inl, inr, arith}
use Rattle.std.specs.Prelude.{ℤ, pos, negsuc, ◌+ℤ◌, ◌-ℤ◌, ◌*ℤ◌, ◌<ℤ◌, ◌≤ℤ◌, map, if◌then◌else◌}
use Rattle.std.specs.Ordering.{int_eq}
use Rattle.std.proofs.Math.IntN.{*ℤ-zero, zero-*ℤ, *ℤ_comm}
use Rattle.std.proofs.lemmas.Int.{ints}
use Rattle.std.proofs.lemmas.Bool.Decides.{Decides-int_eq}
use Rattle.p1_normal.specs.declared.matrix.Matrix.{Matrix}
use Rattle.heilbronn_sets.specs.Merel.{IsMerel}
use Rattle.heilbronn_chains.specs.Chains.{IsChain}
use Rattle.heilbronn_chains.specs.Ends.{Entry, IsEnd, value_at, change, total}
use Rattle.heilbronn_chains.proofs.Integers.{is_gap, pos_gap, gaps, gap_same}
use Rattle.heilbronn_chains.proofs.Runs.{IsRun, chain_run}

-- tests that hold together are equal
pub same_test : (s t : Bool) → (s ≡ true → t ≡ true) → (t ≡ true → s ≡ true) → s ≡ t
same_test true t f g = sym (f refl)
same_test false true f g = g refl
same_test false false f g = refl

-- a product with a positive factor is 0 only where the other factor is
vanishes : (x v : ℤ) → pos 0 <ℤ x → pos 0 ≡ x *ℤ v → v ≡ pos 0
vanishes x (pos zero) l e = refl
vanishes (pos (suc x)) (pos (suc v)) l e = absurd (omega (arith, ints, e))
vanishes (pos zero) (pos (suc v)) l e = absurd (omega (arith, ints, l))
vanishes (negsuc x) (pos (suc v)) l e = absurd (omega (arith, ints, l))
vanishes (pos (suc x)) (negsuc v) l e = absurd (omega (arith, ints, e))
vanishes (pos zero) (negsuc v) l e = absurd (omega (arith, ints, l))
vanishes (negsuc x) (negsuc v) l e = absurd (omega (arith, ints, l))

-- an end is x / 0 where its second part is 0, and 0 / y where its first part is
infinity_is : (u v x : ℤ) → pos 0 <ℤ x → int_eq (u *ℤ pos 0) (x *ℤ v) ≡ int_eq v (pos 0)
infinity_is u v x some = same_test (int_eq (u *ℤ pos 0) (x *ℤ v)) (int_eq v (pos 0))
    (λ e. (Decides-int_eq v (pos 0)).1 (vanishes x v some (sym (*ℤ-zero u) ∙ (Decides-int_eq (u *ℤ pos 0) (x *ℤ v)).0 e)))
    (λ e. (Decides-int_eq (u *ℤ pos 0) (x *ℤ v)).1 (*ℤ-zero u ∙ sym (*ℤ-zero x) ∙ ap (λ z. x *ℤ z) (sym ((Decides-int_eq v (pos 0)).0 e))))

zero_is : (u v y : ℤ) → pos 0 <ℤ y → int_eq (u *ℤ y) (pos 0 *ℤ v) ≡ int_eq u (pos 0)
zero_is u v y some = same_test (int_eq (u *ℤ y) (pos 0 *ℤ v)) (int_eq u (pos 0))
    (λ e. (Decides-int_eq u (pos 0)).1 (vanishes y u some (sym (zero-*ℤ v) ∙ sym ((Decides-int_eq (u *ℤ y) (pos 0 *ℤ v)).0 e) ∙ *ℤ_comm u y)))
    (λ e. (Decides-int_eq (u *ℤ y) (pos 0 *ℤ v)).1 (ap (λ z. z *ℤ y) ((Decides-int_eq u (pos 0)).0 e) ∙ zero-*ℤ y ∙ sym (zero-*ℤ v)))

-- the value at x / 0 is that at 1 / 0, and that at 0 / y is that at 0 / 1
pub value_at-infinity : (g : List Entry) (x : ℤ) → pos 0 <ℤ x → value_at g x (pos 0) ≡ value_at g (pos 1) (pos 0)
value_at-infinity [] x some = refl
value_at-infinity (e ∷ g) x some =
    ap (λ t. if t then e.value else value_at g x (pos 0)) (infinity_is e.x e.y x some ∙ sym (infinity_is e.x e.y (pos 1) (omega (arith, ints))))
    ∙ ap (λ z. if int_eq (e.x *ℤ pos 0) (pos 1 *ℤ e.y) then e.value else z) (value_at-infinity g x some)

pub value_at-zero : (g : List Entry) (y : ℤ) → pos 0 <ℤ y → value_at g (pos 0) y ≡ value_at g (pos 0) (pos 1)
value_at-zero [] y some = refl
value_at-zero (e ∷ g) y some =
    ap (λ t. if t then e.value else value_at g (pos 0) y) (zero_is e.x e.y y some ∙ sym (zero_is e.x e.y (pos 1) (omega (arith, ints))))
    ∙ ap (λ z. if int_eq (e.x *ℤ pos 1) (pos 0 *ℤ e.y) then e.value else z) (value_at-zero g y some)

-- the sum over a run ends at infinity
run_total : (n : ℕ) (g : List Entry) (m : Matrix) (ks : List Matrix) → IsMerel n m → IsRun n m ks →
    total (map (change g) (m ∷ ks)) ≡ value_at g (pos 1) (pos 0) -ℤ value_at g m.b m.d
run_total n g m [] h run =
    let here : value_at g m.a m.c ≡ value_at g (pos 1) (pos 0) = ap (value_at g m.a) run
    ∙ value_at-infinity g m.a (positive m.a m.b h.upper h.left) in
    omega (arith, ints, here)
  where
    positive : (a b : ℤ) → pos 0 ≤ℤ b → b <ℤ a → pos 0 <ℤ a
    positive a b l u = omega (arith, ints, l, u)
run_total n g m (k ∷ ks) h run =
    let rest : total (map (change g) (k ∷ ks)) ≡ value_at g (pos 1) (pos 0) -ℤ value_at g k.b k.d = run_total n g k ks run.0.is_member run.1 in
    let link : value_at g k.b k.d ≡ value_at g m.a m.c = ap (λ z. value_at g z k.d) run.0.upper ∙ ap (value_at g m.a) run.0.lower in
    added (value_at g m.a m.c) (value_at g m.b m.d) (value_at g k.b k.d) (value_at g (pos 1) (pos 0)) (total (map (change g) (k ∷ ks))) rest link
  where
    added : (x y z w t : ℤ) → t ≡ w -ℤ z → z ≡ x → (x -ℤ y) +ℤ t ≡ w -ℤ y
    added x y z w t e f = omega (arith, ints, e, f)

-- and the sum over a chain begins at 0
pub chain_total : (n : ℕ) (g : List Entry) (ms : List Matrix) → IsChain n ms →
    total (map (change g) ms) ≡ value_at g (pos 1) (pos 0) -ℤ value_at g (pos 0) (pos 1)
chain_total n g ms h =
    let r = chain_run n ms h in
    let zero : value_at g r.first.b r.first.d ≡ value_at g (pos 0) (pos 1) = ap (λ z. value_at g z r.first.d) r.begins
    ∙ value_at-zero g r.first.d (positive r.first.c r.first.d r.is_member.lower r.is_member.right) in
    ap (λ ws. total (map (change g) ws)) r.is ∙ run_total n g r.first r.rest r.is_member r.run ∙ ap (λ z. value_at g (pos 1) (pos 0) -ℤ z) zero
  where
    positive : (c d : ℤ) → pos 0 ≤ℤ c → c <ℤ d → pos 0 <ℤ d
    positive c d l u = omega (arith, ints, l, u)

-- ---- the value at an end does not hang on the pair that names it
cancels : (x v : ℤ) → x ≢ pos 0 → x *ℤ v ≡ pos 0 → v ≡ pos 0
cancels x (pos zero) some e = refl
cancels (pos zero) v some e = absurd (some refl)
cancels (pos (suc x)) (pos (suc v)) some e = absurd (omega (arith, ints, e))
cancels (negsuc x) (pos (suc v)) some e = absurd (omega (arith, ints, e))
cancels (pos (suc x)) (negsuc v) some e = absurd (omega (arith, ints, e))
cancels (negsuc x) (negsuc v) some e = absurd (omega (arith, ints, e))

image_number_over : (s t : ℤ) → s -ℤ t ≡ pos 0 → s ≡ t
image_number_over s t e = omega (arith, ints, e)

-- an entry names x / y only where it names the same end z / w
crosses : (u v x y z w : ℤ) → (x ≢ pos 0) ⊎ (y ≢ pos 0) → x *ℤ w ≡ z *ℤ y → u *ℤ y ≡ x *ℤ v → u *ℤ w ≡ z *ℤ v
crosses u v x y z w (inl some) same e =
    image_number_over (u *ℤ w) (z *ℤ v) (cancels x ((u *ℤ w) -ℤ (z *ℤ v)) some
    (out ∙ ap (λ p. (u *ℤ p) -ℤ (z *ℤ (x *ℤ v))) same ∙ ap (λ p. (u *ℤ (z *ℤ y)) -ℤ (z *ℤ p)) (sym e) ∙ none))
  where
    out : x *ℤ ((u *ℤ w) -ℤ (z *ℤ v)) ≡ (u *ℤ (x *ℤ w)) -ℤ (z *ℤ (x *ℤ v))
    out = rw (is_gap u, is_gap v, is_gap x, is_gap z, is_gap w) (simp gaps (gap_same _ _ _ _ (omega arith)))

    none : (u *ℤ (z *ℤ y)) -ℤ (z *ℤ (u *ℤ y)) ≡ pos 0
    none = rw (is_gap u, is_gap y, is_gap z, pos_gap 0) (simp gaps (gap_same _ _ _ _ (omega arith)))
crosses u v x y z w (inr some) same e =
    image_number_over (u *ℤ w) (z *ℤ v) (cancels y ((u *ℤ w) -ℤ (z *ℤ v)) some
    (out ∙ ap (λ p. (p *ℤ w) -ℤ ((z *ℤ y) *ℤ v)) e ∙ ap (λ p. ((x *ℤ v) *ℤ w) -ℤ (p *ℤ v)) (sym same) ∙ none))
  where
    out : y *ℤ ((u *ℤ w) -ℤ (z *ℤ v)) ≡ ((u *ℤ y) *ℤ w) -ℤ ((z *ℤ y) *ℤ v)
    out = rw (is_gap u, is_gap v, is_gap y, is_gap z, is_gap w) (simp gaps (gap_same _ _ _ _ (omega arith)))

    none : ((x *ℤ v) *ℤ w) -ℤ ((x *ℤ w) *ℤ v) ≡ pos 0
    none = rw (is_gap v, is_gap x, is_gap w, pos_gap 0) (simp gaps (gap_same _ _ _ _ (omega arith)))

pub value_at_same : (g : List Entry) (x y z w : ℤ) → IsEnd x y → IsEnd z w → x *ℤ w ≡ z *ℤ y → value_at g x y ≡ value_at g z w
value_at_same [] x y z w one two same = refl
value_at_same (e ∷ g) x y z w one two same =
    ap (λ t. if t then e.value else value_at g x y) (same_test (int_eq (e.x *ℤ y) (x *ℤ e.y)) (int_eq (e.x *ℤ w) (z *ℤ e.y))
    (λ h. (Decides-int_eq (e.x *ℤ w) (z *ℤ e.y)).1 (crosses e.x e.y x y z w one same ((Decides-int_eq (e.x *ℤ y) (x *ℤ e.y)).0 h)))
    (λ h. (Decides-int_eq (e.x *ℤ y) (x *ℤ e.y)).1 (crosses e.x e.y z w x y two (sym same) ((Decides-int_eq (e.x *ℤ w) (z *ℤ e.y)).0 h))))
    ∙ ap (λ v. if int_eq (e.x *ℤ w) (z *ℤ e.y) then e.value else v) (value_at_same g x y z w one two same)
