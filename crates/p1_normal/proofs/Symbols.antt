-- What each symbol is, and that two symbols never name one point.
use Rattle.std.proofs.Common.{◌≡◌, ◌+◌, ◌*◌, ◌<◌, ℕ, zero, suc, true, List, Some, length, get_or, sym, ◌∙◌, ap, subst, arith}
use Rattle.std.specs.Prelude.{slice_get, All, unwrap_or}
use Rattle.std.specs.List.{range_with_len}
use Rattle.std.proofs.lemmas.Option.{slice_get_within, get_or_from_slice_get}
use Rattle.std.proofs.lemmas.List.Elements.{All-filter, All-map, All-get_or, All-from_get_or, filter_passes}
use Rattle.std.proofs.lemmas.List.FromFn.{get_or-range_with_len, length-range_with_len}
use Rattle.p1_normal.specs.declared.point.Point.{Point}
use Rattle.p1_normal.specs.declared.matrix.Matrix.{Matrix}
use Rattle.p1_normal.specs.Units.{gcd}
use Rattle.linear_algebra.specs.Integers.{residue_of}
use Rattle.p1_normal.specs.Points.{point, SamePoint, common_divisor, normal_form, is_symbol, pairs, symbols, symbol_at, IsBelow}
use Rattle.p1_normal.specs.Actions.{image, determinant}
use Rattle.p1_normal.specs.Sieving.{at}
use Rattle.p1_normal.proofs.Places.{pairs_are, IsBelow-at}
use Rattle.p1_normal.proofs.NormalForms.{normal_form-same}
use Rattle.p1_normal.proofs.Sieve.{symbol_parts}
use Rattle.p1_normal.proofs.Actions.{common_divisor-image}

All-at : {X : Type 0} (P : X → Type 0) (xs : List X) (k : ℕ) (x : X) → All P xs → slice_get xs k ≡ Some x → P x
All-at P xs k x all e = subst P (get_or_from_slice_get xs k x x e) (All-get_or P xs k x (slice_get_within xs k x e) all)

pub record IsOneOfSymbols (N : ℕ) (p : Point) : Type 0 where
  pub below : IsBelow N p
  pub coprime : common_divisor N p ≡ 1
  pub own : normal_form N p ≡ p

pub symbol_is : (N k : ℕ) (p : Point) → 0 < N → slice_get (symbols N) k ≡ Some p → IsOneOfSymbols N p
unfolding symbols
symbol_is N k p some e =
    let (one, same) = symbol_parts N p (All-at (λ q. is_symbol N q ≡ true) (symbols N) k p (filter_passes (is_symbol N) (pairs N)) e) in
    record {
      below = All-at (IsBelow N) (symbols N) k p (All-filter (is_symbol N) (IsBelow N) (pairs N)
          (subst (All (IsBelow N)) (sym (pairs_are N)) (All-map (IsBelow N) (at N) (range_with_len 0 (N * N))
          (All-from_get_or (λ x. IsBelow N (at N x)) (range_with_len 0 (N * N)) 0 in_range)))) e;
      coprime = one;
      own = same;
    }
  where
    in_range : (i : ℕ) → i < length (range_with_len 0 (N * N)) → IsBelow N (at N (get_or (range_with_len 0 (N * N)) i 0))
    in_range i h = let small : i < N * N = omega (arith, length-range_with_len 0 (N * N)) in
        subst (λ x. IsBelow N (at N x)) (sym (get_or-range_with_len 0 (N * N) i 0 small)) (IsBelow-at N (0 + i) some (omega arith))

pub symbol_at_is : (N k : ℕ) (p : Point) → slice_get (symbols N) k ≡ Some p → symbol_at N k ≡ p
symbol_at_is N k p e = ap (λ o. unwrap_or o (point 0 0)) e

-- two symbols that name one point are equal
pub symbol_unique : (N j k : ℕ) (p q : Point) → 0 < N → slice_get (symbols N) j ≡ Some p → slice_get (symbols N) k ≡ Some q → SamePoint N p q → p ≡ q
symbol_unique N j k p q some e f same = sym (symbol_is N j p some e).own ∙ normal_form-same N p q some same ∙ (symbol_is N k q some f).own

-- `common_divisor-image` at a positive N
pub image_coprime : (N : ℕ) (p : Point) (m : Matrix) → 0 < N → gcd (residue_of N (determinant m)) N ≡ 1 → common_divisor N p ≡ 1
    → common_divisor N (image N p m) ≡ 1
image_coprime zero p m some e one = absurd (omega arith)
image_coprime (suc n) p m some e one = common_divisor-image n p m e one
