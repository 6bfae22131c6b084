-- Tables of turns: places and numbers.
use Rattle.std.proofs.Common.{◌≡◌, ◌+◌, ◌*◌, ◌-◌, ◌/◌, ◌<◌, ◌≤◌, ℕ, zero, suc, List, [], ◌∷◌, ◌++◌, length, get_or, sym, ◌∙◌, ap, arith}
use Rattle.std.specs.Prelude.{ℤ, pos, negsuc}
use Rattle.std.specs.Int.{w32, cast_signed}
use Rattle.std.proofs.lemmas.Int.{to_z_pos}
use Rattle.std.proofs.lemmas.Nat.{div-mul-add}
use Rattle.std.proofs.lemmas.List.FromFn.{get_or-map-range_with_len, map-range_with_len_more}
use Rattle.std.proofs.Math.Nat.{mul-add-mod_self_right, mod-eq_of_lt, div-lt_iff_lt-mul}
use Rattle.p1_normal.specs.declared.matrix.Matrix.{Matrix}
use Rattle.p1_normal.specs.declared.matrix.TheConstants.{MAX_DET}
use Rattle.p1_normal.specs.Points.{symbols}
use Rattle.p1_normal.specs.Actions.{matrix, image_number, IsInvertible, IsSmall}
use Rattle.p1_normal.proofs.Moves.{image_number-lt}
use Rattle.heilbronn_chains.specs.Turns.{turn}
use Rattle.heilbronn_chains.proofs.Turns.{invertible_one, determinant-turn}
use Rattle.hecke_columns.specs.Turns.{turned, turned_list}

-- a product with a number that is at most a limit
pub times_few : (q L m : ℕ) → q ≤ L → q * m ≤ L * m
times_few q L m few =
    let e : L ≡ q + (L - q) = omega arith in
    let f : L * m ≡ (q + (L - q)) * m = ap (λ z. z * m) e in
    omega (arith, f)

-- place q m + j lies in the table
pub place_within : (q L m j : ℕ) → q ≤ L → j < m → q * m + j < (L + 1) * m
place_within q L m j few within = omega (arith, times_few q L m few, within)

-- a turn acts on symbols
pub turn_invertible : (N : ℕ) (q : ℤ) → IsInvertible N (turn q)
turn_invertible N q = invertible_one N (turn q) (determinant-turn q)

pub turn_small : (q : ℕ) → q ≤ MAX_DET → IsSmall (turn (pos q))
turn_small q few = record { a = omega (arith, few); b = omega arith; c = omega arith; d = omega arith }

-- what stands at place q m + j
pub turned_at : (N L q j d : ℕ) (numbers : List ℕ) → q ≤ L → j < length (symbols N) → numbers ≡ turned_list N ((L + 1) * length (symbols N))
    → get_or numbers (q * length (symbols N) + j) d ≡ image_number N j (turn (pos q))
turned_at N L q j d numbers few within e =
    let m = length (symbols N) in
    ap (λ xs. get_or xs (q * m + j) d) e
    ∙ get_or-map-range_with_len (turned N) 0 ((L + 1) * m) (q * m + j) (q * m + j) d (place_within q L m j few within) (omega arith)
    ∙ ap (λ k. image_number N k (turn (pos ((q * m + j) / m)))) (mul-add-mod_self_right q m j ∙ mod-eq_of_lt within)
    ∙ ap (λ r. image_number N j (turn (pos r))) (div-mul-add q m j within)

pub turned_below : (N j q : ℕ) → j < length (symbols N) → image_number N j (turn (pos q)) < length (symbols N)
turned_below N j q within = image_number-lt N j (turn (pos q)) within (turn_invertible N (pos q))

-- one number more
pub turned_more : (N i : ℕ) (list new : List ℕ) (x : ℕ) → list ≡ turned_list N i → new ≡ list ++ x ∷ [] → x ≡ turned N i → new ≡ turned_list N (i + 1)
turned_more N i list new x e h is = h ∙ ap (λ xs. xs ++ x ∷ []) e ∙ ap (λ y. turned_list N i ++ y ∷ []) is
    ∙ sym (map-range_with_len_more (turned N) 0 i i (omega arith))

-- the quotient of a place is at most the limit
pub quotient_few : (L m i : ℕ) → L ≤ MAX_DET → i < (L + 1) * m → i / m ≤ MAX_DET
quotient_few L zero i few l = absurd (omega (arith, l))
quotient_few L (suc m) i few l =
    let below = (div-lt_iff_lt-mul {k = suc m} {x = i} {y = L + 1} (omega arith)).1 l in
    omega (arith, below, few)

-- the matrix of a turn, as the code makes it
pub turn_made : (q : ℕ) (m : Matrix) → q ≤ MAX_DET → m ≡ matrix (cast_signed w32 q) (pos 1) (negsuc 0) (pos 0) → m ≡ turn (pos q)
turn_made q m few e = e ∙ ap (λ z. matrix z (pos 1) (negsuc 0) (pos 0)) (to_z_pos w32 q (omega arith))
