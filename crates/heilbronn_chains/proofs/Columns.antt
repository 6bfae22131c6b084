-- What the code of a step computes.
use Rattle.std.proofs.Common.{◌≡◌, ◌+◌, ◌*◌, ◌-◌, ◌/◌, ◌%◌, ◌<◌, ◌≤◌, ℕ, zero, suc, sym, ◌∙◌, ap, subst, arith}
use Rattle.std.specs.Prelude.{ℤ, pos, nat_abs}
use Rattle.std.specs.Int.{w32, cast_signed, cast_unsigned}
use Rattle.std.proofs.Math.Nat.{div-add-mod, mod-lt}
use Rattle.std.proofs.lemmas.Int.{to_z_pos}
use Rattle.p1_normal.specs.declared.matrix.Matrix.{Matrix}
use Rattle.p1_normal.specs.declared.matrix.TheConstants.{MAX_DET}
use Rattle.p1_normal.specs.Actions.{matrix}
use Rattle.heilbronn_sets.specs.Merel.{IsMerel}
use Rattle.heilbronn_sets.proofs.Entries.{AreEntries, entries_sum}
use Rattle.heilbronn_sets.proofs.Members.{member_entries}
use Rattle.heilbronn_chains.specs.Chains.{Follows}
use Rattle.heilbronn_sets.proofs.Rows.{signed_entries}
use Rattle.heilbronn_chains.proofs.Steps.{after_entries, Follows-after}

-- the quotient is the least
pub column_is : (a b c d : ℕ) → b < a → c < d → 0 < c → (q : ℕ) × ((d + c - 1) / c * a - b + b ≡ q * a) × ((d + c - 1) / c * c - d + d ≡ q * c)
column_is a b c d left right some =
    let low : (d + c - 1) % c < c = mod-lt (d + c - 1) some in
    from ((d + c - 1) / c) ((d + c - 1) % c) (div-add-mod (d + c - 1) c) low
  where
    from : (q r : ℕ) → c * q + r ≡ d + c - 1 → r < c → (k : ℕ) × (q * a - b + b ≡ k * a) × (q * c - d + d ≡ k * c)
    from zero r e l = absurd (omega (arith, e, l, some, right))
    from (suc q) r e l = (suc q, omega (arith, left), omega (arith, e, l))

-- what an entry that is cast to a number reads as
abbrev pub read : ℤ → ℕ
read z = nat_abs (cast_signed w32 (cast_unsigned w32 z))

read_is : (k : ℕ) → k ≤ MAX_DET + 1 → read (pos k) ≡ k
read_is k l = ap nat_abs (to_z_pos w32 k (omega (arith, l)))

-- the entries of a member are small
record Small (m : Matrix) : Type 0 where
  a : read m.a ≤ MAX_DET
  d : read m.d ≤ MAX_DET

small_entries : (n a b c d : ℕ) → n ≤ MAX_DET → AreEntries n a b c d → Small (matrix (pos a) (pos b) (pos c) (pos d))
small_entries n a b c d few h =
    let sum = entries_sum n a b c d h in
    let left = h.left in
    let right = h.right in
    record {
      a = subst (λ k. k ≤ MAX_DET) (sym (read_is a (omega (arith, sum, few)))) (omega (arith, sum, few, right));
      d = subst (λ k. k ≤ MAX_DET) (sym (read_is d (omega (arith, sum, few)))) (omega (arith, sum, few, left));
    }

pub small_member : (n : ℕ) (m : Matrix) → n ≤ MAX_DET → IsMerel n m → (read m.a ≤ MAX_DET) × (read m.d ≤ MAX_DET)
small_member n m few h =
    let e = member_entries n m h in
    let s = subst Small (sym e.is) (small_entries n e.a e.b e.c e.d few e.entries) in
    (s.a, s.d)

-- the column that the code computes
pub record IsColumn (m : Matrix) (x y : ℕ) : Type 0 where
  pub column : (q : ℕ) × (x + read m.b ≡ q * read m.a) × (y + read m.d ≡ q * read m.c)
  pub below : y < read m.c

record AfterEntries (n : ℕ) (m : Matrix) (x y : ℕ) : Type 0 where
  few : x ≤ MAX_DET
  follows : (r : Matrix) → r ≡ matrix (cast_signed w32 x) (cast_signed w32 (cast_unsigned w32 m.a)) (cast_signed w32 y)
      (cast_signed w32 (cast_unsigned w32 m.c)) → Follows n m r

after_by : (n a b c d x y : ℕ) → n ≤ MAX_DET → AreEntries n a b c d → IsColumn (matrix (pos a) (pos b) (pos c) (pos d)) x y →
    AfterEntries n (matrix (pos a) (pos b) (pos c) (pos d)) x y
after_by n a b c d x y few h i =
    let sum = entries_sum n a b c d h in
    let left = h.left in
    let right = h.right in
    let ea = read_is a (omega (arith, sum, few)) in
    let eb = read_is b (omega (arith, sum, few, left)) in
    let ec = read_is c (omega (arith, sum, few, right)) in
    let ed = read_is d (omega (arith, sum, few)) in
    let (q, upper, lower) = i.column in
    let e : x + b ≡ q * a = ap (λ k. x + k) (sym eb) ∙ upper ∙ ap (λ k. q * k) ea in
    let f : y + d ≡ q * c = ap (λ k. y + k) (sym ed) ∙ lower ∙ ap (λ k. q * k) ec in
    let low : y < c = subst (λ k. y < k) ec i.below in
    let next : AreEntries n x a y c = after_entries n a b c d q x y h e f low in
    let more = entries_sum n x a y c next in
    record {
      few = omega (arith, more, few, low);
      follows = λ r is. subst (Follows n (matrix (pos a) (pos b) (pos c) (pos d)))
          (sym (is ∙ signed_entries x a y c (omega (arith, more, few, low)) (omega (arith, sum, few, right)) (omega (arith, sum, few, low, right))
          (omega (arith, sum, few, right))))
          (Follows-after n a b c d q x y h e f low);
    }

after_column : (n : ℕ) (m : Matrix) (x y : ℕ) → n ≤ MAX_DET → IsMerel n m → IsColumn m x y → AfterEntries n m x y
after_column n m x y few h =
    let e = member_entries n m h in
    subst (λ w. IsColumn w x y → AfterEntries n w x y) (sym e.is) (after_by n e.a e.b e.c e.d x y few e.entries)

pub after_few : (n : ℕ) (m : Matrix) (x y : ℕ) → n ≤ MAX_DET → IsMerel n m → IsColumn m x y → x ≤ MAX_DET
after_few n m x y few h i = (after_column n m x y few h i).few

pub after_follows : (n : ℕ) (m : Matrix) (x y : ℕ) (r : Matrix) → n ≤ MAX_DET → IsMerel n m → IsColumn m x y →
    r ≡ matrix (cast_signed w32 x) (cast_signed w32 (cast_unsigned w32 m.a)) (cast_signed w32 y) (cast_signed w32 (cast_unsigned w32 m.c)) →
    Follows n m r
after_follows n m x y r few h i = (after_column n m x y few h i).follows r
