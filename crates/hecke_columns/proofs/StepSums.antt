-- Hecke sums along steps, as the code takes them.
use Rattle.std.proofs.Common.{◌≡◌, ◌+◌, ◌%◌, ◌<◌, ℕ, zero, suc, List, [], ◌∷◌, ◌++◌, length, get_or, replicate, set, take, All, refl, sym, ◌∙◌, ap, subst, arith}
use Rattle.std.specs.Prelude.{pos}
use Rattle.std.proofs.lemmas.List.{take_more}
use Rattle.std.proofs.lemmas.List.Elements.{All-nil, All-cons, All-head, All-push, All-set, All-tail}
use Rattle.std.proofs.lemmas.List.Sorted.{All-permutation, IsPermutation-sym}
use Rattle.linear_algebra.specs.Vector.{◌⊞◌}
use Rattle.linear_algebra.specs.Dense.{dense}
use Rattle.linear_algebra.specs.Sparse.{sparse}
use Rattle.field_table.specs.Residues.{AreResidues}
use Rattle.field_table.specs.Terms.{HasPlacesBelow}
use Rattle.p1_normal.specs.declared.matrix.Matrix.{Matrix}
use Rattle.p1_normal.specs.Actions.{IsInvertible, image_number}
use Rattle.p1_normal.specs.Points.{symbols}
use Rattle.p1_normal.specs.Units.{gcd}
use Rattle.p1_normal.proofs.Moves.{image_number-image_number}
use Rattle.p1_normal.proofs.Numbers.{level_positive}
use Rattle.heilbronn_sets.specs.Merel.{IsMerel, merel_matrices}
use Rattle.heilbronn_sets.proofs.Members.{All-merel_matrices, IsSmall-member}
use Rattle.heilbronn_chains.specs.Turns.{turn}
use Rattle.heilbronn_chains.proofs.Turns.{invertible_one, shear_none}
use Rattle.quotient_coords.specs.Quotient.{AreCoordinates, Ground, HasCoordinates}
use Rattle.hecke_columns.specs.declared.steps.Step.{Step}
use Rattle.hecke_columns.specs.declared.steps.Step.TheVariants as steps
use Rattle.hecke_columns.specs.Hecke.{IsColumn, symbol_sum}
use Rattle.hecke_columns.specs.Steps.{AreSteps, IsActing, IsTurnWithin, after, identity, image_after, last_of, matrices_from, matrices_of}
use Rattle.hecke_columns.proofs.Columns.{IsColumn-from_dense}
use Rattle.hecke_columns.proofs.Coprime.{IsInvertible-from_determinant}
use Rattle.hecke_columns.proofs.Hits.{hits, sparse-hits}
use Rattle.hecke_columns.proofs.Sums.{hecke_sum-unit}
use Rattle.hecke_columns.proofs.Permuted.{IsColumn-permutation, hits-append, sum_more}
use Rattle.hecke_columns.proofs.ChainSums.{sum_none}
use Rattle.hecke_columns.proofs.StepLists.{last-push, last_keeps, matrices-push}

-- the matrices are members of Merel's set
members_of : (n : ℕ) (ss : List Step) → AreSteps n ss → All (IsMerel n) (matrices_of ss)
members_of n ss h = All-permutation (IsMerel n) (merel_matrices n) (matrices_of ss)
    (IsPermutation-sym (matrices_of ss) (merel_matrices n) h.matrices) (All-merel_matrices n)

-- so they are invertible
pub all_invertible_after : (N n : ℕ) (ss : List Step) → gcd n N ≡ 1 → AreSteps n ss → All (IsInvertible N) (matrices_of ss)
all_invertible_after N n ss coprime h = λ k d l.
    IsInvertible-from_determinant N n (get_or (matrices_of ss) k d) coprime (members_of n ss h k d l).determinant_is

-- and act on symbols
pub all_acting : (N n : ℕ) (ss : List Step) → gcd n N ≡ 1 → AreSteps n ss → All (IsActing N) ss
all_acting N n ss coprime h = from identity ss (members_of n ss h) h.turns
  where
    one : (m : Matrix) (s : Step) → IsMerel n (after m s) → IsTurnWithin s → IsActing N s
    one m (steps.Begin k) is within = record {
      invertible = IsInvertible-from_determinant N n k coprime is.determinant_is;
      small = IsSmall-member n k h.limit is;
    }
    one m (steps.Turn q) is within = within

    from : (m : Matrix) (ss : List Step) → All (IsMerel n) (matrices_from m ss) → All IsTurnWithin ss → All (IsActing N) ss
    from m [] all turns = All-nil (IsActing N)
    from m (s ∷ ss) all turns =
        All-cons (IsActing N) s ss
        (one m s (All-head (IsMerel n) (after m s) (matrices_from (after m s) ss) all) (All-head IsTurnWithin s ss turns))
        (from (after m s) ss (All-tail (IsMerel n) (after m s) (matrices_from (after m s) ss) all) (All-tail IsTurnWithin s ss turns))

-- the matrices after the first steps
matrices-take : (P : Matrix → Type 0) (m : Matrix) (ss : List Step) (i : ℕ) → All P (matrices_from m ss) → All P (matrices_from m (take i ss))
matrices-take P m [] zero all = all
matrices-take P m [] (suc i) all = all
matrices-take P m (s ∷ ss) zero all = All-nil P
matrices-take P m (s ∷ ss) (suc i) all =
    All-cons P (after m s) (matrices_from (after m s) (take i ss)) (All-head P (after m s) (matrices_from (after m s) ss) all)
    (matrices-take P (after m s) ss i (All-tail P (after m s) (matrices_from (after m s) ss) all))

-- the image by the matrix after a step
image_is : (N k hit : ℕ) (m : Matrix) (s : Step) → k < length (symbols N) → IsInvertible N m → hit ≡ image_number N k m
    → image_after N k hit s ≡ image_number N k (after m s)
image_is N k hit m (steps.Begin j) within unit is = refl
image_is zero k hit m (steps.Turn q) within unit is = absurd (let l = level_positive zero k within in omega (arith, l))
image_is (suc N) k hit m (steps.Turn q) within unit is =
    ap (λ j. image_number (suc N) j (turn (pos q))) is ∙ image_number-image_number N k m (turn (pos q)) within unit

-- the number of the image after one step more
step_number : (N k : ℕ) (ss : List Step) (i hit new : ℕ) (s : Step) → k < length (symbols N) → All (IsInvertible N) (matrices_of ss)
    → new ≡ image_after N k hit s → hit ≡ image_number N k (last_of identity (take i ss))
    → new ≡ image_number N k (after (last_of identity (take i ss)) s)
step_number N k ss i hit new s place all at image =
    at ∙ image_is N k hit (last_of identity (take i ss)) s place
    (last_keeps (IsInvertible N) identity (take i ss) (invertible_one N identity refl) (matrices-take (IsInvertible N) identity ss i all)) image

-- the first steps and one more
take_step : (ss : List Step) (i : ℕ) (d s : Step) → i < length ss → s ≡ get_or ss i d → take (i + 1) ss ≡ take i ss ++ s ∷ []
take_step ss i d s l is = take_more ss i d l ∙ ap (λ t. take i ss ++ t ∷ []) (sym is)

-- all of them
whole_list : (ss : List Step) (i : ℕ) → i ≡ length ss → take i ss ≡ ss
whole_list ss i e = ap (λ j. take j ss) e ∙ same ss
  where
    same : (xs : List Step) → take (length xs) xs ≡ xs
    same [] = refl
    same (x ∷ xs) = ap (λ ys. x ∷ ys) (same xs)

-- the images of symbol k by the matrices after the first steps are counted, and hit is the last of them
pub record AreStepped (N p k : ℕ) (ss : List Step) (i : ℕ) (old counts : List ℕ) (hit : ℕ) : Type 0 where
  pub sum : dense p counts ≡ dense p old ⊞ symbol_sum N (matrices_of (take i ss)) k
  pub image : hit ≡ image_number N k (last_of identity (take i ss))
  pub within : hit < length (symbols N)
  pub residues : AreResidues p counts

pub counted_none_stepped : (N p k : ℕ) (ss : List Step) (old : List ℕ) → k < length (symbols N) → AreResidues p old
    → AreStepped N p k ss 0 old old k
counted_none_stepped N p k ss old within residues = record {
  sum = sum_none p N k old;
  image = sym (shear_none N k within);
  within = within;
  residues = residues;
}

pub counted_more_stepped : (N p k : ℕ) (ss : List Step) (i : ℕ) (old counts : List ℕ) (hit new v : ℕ) (d s : Step) → k < length (symbols N)
    → All (IsInvertible N) (matrices_of ss) → i < length ss → s ≡ get_or ss i d → new ≡ image_after N k hit s → new < length (symbols N)
    → new < length counts → v ≡ (get_or counts new 0 + 1) % p → v < p → AreStepped N p k ss i old counts hit
    → AreStepped N p k ss (i + 1) old (set counts new v) new
counted_more_stepped N p k ss i old counts hit new v d s place all l is at below within e residue h =
    let last = last_of identity (take i ss) in
    let number = step_number N k ss i hit new s place all at h.image in
    let more = take_step ss i d s l is in
    record {
      sum = sum_more p N (matrices_of (take i ss)) (after last s) k old counts new v number within e h.sum
          ∙ ap (λ ms. dense p old ⊞ symbol_sum N ms k) (sym (ap matrices_of more ∙ matrices-push identity (take i ss) s));
      image = number ∙ ap (image_number N k) (sym (ap (last_of identity) more ∙ last-push identity (take i ss) s));
      within = below;
      residues = All-set (λ x. x < p) counts new v residue h.residues;
    }

pub counted_all_stepped : (N p k : ℕ) (ss : List Step) (i : ℕ) (old counts : List ℕ) (hit : ℕ) → i ≡ length ss → AreStepped N p k ss i old counts hit
    → dense p counts ≡ dense p old ⊞ symbol_sum N (matrices_of ss) k
counted_all_stepped N p k ss i old counts hit e h = h.sum ∙ ap (λ xs. dense p old ⊞ symbol_sum N (matrices_of xs) k) (whole_list ss i e)

-- the counts of the images along the steps, made from zeros, give the column over Merel's set
pub IsColumn-from_steps : (g : Ground) (n k m : ℕ) (ss : List Step) (counts : List ℕ) (values : List ℕ) → k < length (symbols g.level)
    → AreSteps n ss → dense g.characteristic counts ≡ dense g.characteristic (replicate m 0) ⊞ symbol_sum g.level (matrices_of ss) k
    → AreCoordinates g.level (dense g.characteristic counts) values → IsColumn g (merel_matrices n) k values
IsColumn-from_steps g n k m ss counts values within h sum coordinates =
    IsColumn-permutation g (matrices_of ss) (merel_matrices n) k values within h.matrices
    (IsColumn-from_dense g (matrices_of ss) k m counts values within sum coordinates)

-- the images of symbol k by the matrices after the first steps are listed, and hit is the last of them
pub record AreListed (N k : ℕ) (ss : List Step) (i : ℕ) (items : List (ℕ × ℕ)) (hit : ℕ) : Type 0 where
  pub items_are : items ≡ hits N (matrices_of (take i ss)) k
  pub places : HasPlacesBelow (length (symbols N)) items
  pub image : hit ≡ image_number N k (last_of identity (take i ss))
  pub within : hit < length (symbols N)

pub listed_none : (N k : ℕ) (ss : List Step) (items : List (ℕ × ℕ)) → k < length (symbols N) → items ≡ [] → AreListed N k ss 0 items k
listed_none N k ss items within e = record {
  items_are = e;
  places = subst (HasPlacesBelow (length (symbols N))) (sym e) (All-nil (λ t. t.0 < length (symbols N)));
  image = sym (shear_none N k within);
  within = within;
}

pub listed_more : (N k : ℕ) (ss : List Step) (i : ℕ) (items list : List (ℕ × ℕ)) (hit new : ℕ) (d s : Step) → k < length (symbols N)
    → All (IsInvertible N) (matrices_of ss) → i < length ss → s ≡ get_or ss i d → new ≡ image_after N k hit s → new < length (symbols N)
    → list ≡ items ++ (new, 1) ∷ [] → AreListed N k ss i items hit → AreListed N k ss (i + 1) list new
listed_more N k ss i items list hit new d s place all l is at below e h =
    let number = step_number N k ss i hit new s place all at h.image in
    let more = take_step ss i d s l is in
    record {
      items_are = e ∙ ap (λ ts. ts ++ (new, 1) ∷ []) h.items_are
          ∙ ap (λ j. hits N (matrices_of (take i ss)) k ++ (j, 1) ∷ []) number
          ∙ sym (hits-append N (matrices_of (take i ss)) (after (last_of identity (take i ss)) s ∷ []) k)
          ∙ ap (λ ms. hits N ms k) (sym (ap matrices_of more ∙ matrices-push identity (take i ss) s));
      places = subst (HasPlacesBelow (length (symbols N))) (sym e) (All-push (λ t. t.0 < length (symbols N)) items (new, 1) h.places below);
      image = number ∙ ap (image_number N k) (sym (ap (last_of identity) more ∙ last-push identity (take i ss) s));
      within = below;
    }

pub listed_all : (N k : ℕ) (ss : List Step) (i : ℕ) (items : List (ℕ × ℕ)) (hit : ℕ) → i ≡ length ss → AreListed N k ss i items hit
    → items ≡ hits N (matrices_of ss) k
listed_all N k ss i items hit e h = h.items_are ∙ ap (λ xs. hits N (matrices_of xs) k) (whole_list ss i e)

-- the list of the images along the steps gives the column over Merel's set
pub IsColumn-from_hits : (g : Ground) (n k : ℕ) (ss : List Step) (terms : List (ℕ × ℕ)) (values : List ℕ) → k < length (symbols g.level)
    → AreSteps n ss → terms ≡ hits g.level (matrices_of ss) k → HasCoordinates g terms values → IsColumn g (merel_matrices n) k values
IsColumn-from_hits g n k ss terms values within h e coordinates =
    IsColumn-permutation g (matrices_of ss) (merel_matrices n) k values within h.matrices
    (subst (λ v. AreCoordinates g.level v values) (ap (sparse g.characteristic) e ∙ sparse-hits g.characteristic g.level (matrices_of ss) k
    ∙ sym (hecke_sum-unit g.level (matrices_of ss) k within)) coordinates)
