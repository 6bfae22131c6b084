-- Each splitting has a next one by every matrix that commutes with the listed ones and every polynomial, and entries have a version.
use Rattle.std.proofs.Common.{◌≡◌, ◌≢◌, ◌⊎◌, ◌+◌, ◌<◌, ℕ, zero, suc, List, [], ◌∷◌, ◌++◌, length, map, Contains, refl, sym, ◌∙◌, ap, subst, inl, inr, arith}
use Rattle.std.specs.List.{range_with_len}
use Rattle.std.proofs.Math.ListN.{length-map}
use Rattle.std.proofs.lemmas.Bool.{cases_eq}
use Rattle.std.proofs.lemmas.List.{append_assoc, append-nil, map-append}
use Rattle.std.proofs.lemmas.List.Elements.{Contains-append_left, Contains-append_right}
use Rattle.std.proofs.lemmas.List.FromFn.{length-range_with_len}
use Rattle.field_table.specs.Table.{IsListed}
use Rattle.field_table.proofs.TableFacts.{listed_prime}
use Rattle.linear_algebra.specs.Prime.{IsPrime}
use Rattle.linear_algebra.specs.Residue.{residue}
use Rattle.linear_algebra.specs.Vector.{Vector, ◌⊞◌, ◌⊡◌, zeros, tail, combination, EndsBefore}
use Rattle.linear_algebra.specs.Coordinates.{unit}
use Rattle.linear_algebra.specs.Dense.{dense_rows}
use Rattle.linear_algebra.specs.Span.{Each, none, more, InSpan}
use Rattle.linear_algebra.proofs.BoundPlaces.{in_range}
use Rattle.linear_algebra.proofs.Coordinates.{unit_elsewhere}
use Rattle.linear_algebra.proofs.Rows.{row-map}
use Rattle.linear_algebra.proofs.Spans.{Each-weaker, Each-rows, Each-InSpan, InSpan-plus, InSpan-scale, InSpan-zeros, InSpan-combination}
use Rattle.linear_algebra.proofs.Support.{EndsBefore-InSpan}
use Rattle.linear_algebra.proofs.Vectors.{plus_middle, plus-zeros, zeros-plus, scale-plus, scale-zeros}
use Rattle.stable_subspaces.specs.Operator.{IsStable, power}
use Rattle.stable_subspaces.specs.Fitting.{generalised_kernel, eventual_image}
use Rattle.stable_subspaces.proofs.Fitting.{fitting_splits, fitting_once}
use Rattle.stable_subspaces.proofs.Powers.{power-add, power-plus, power-scale, power-zeros, InSpan-image, image_from_span}
use Rattle.dense_mat.specs.Subspace.{Subspace, IsBasisOf}
use Rattle.dense_mat.proofs.Bases.{basis_of-same}
use Rattle.dense_mat.proofs.Composites.{units_combine}
use Rattle.dense_mat.proofs.Steps.{rows_end}
use Rattle.op_polynomials.specs.declared.name.OpName.{OpName}
use Rattle.op_polynomials.specs.declared.name.OpName.TheVariants.{T, Star}
use Rattle.op_polynomials.specs.declared.entry.SplitEntry.{SplitEntry}
use Rattle.quotient_coords.specs.Quotient.{Ground, dimension}
use Rattle.split_state.specs.Decomposition.{Decomposition, Centralises, IsSized, IsSplitting, Keeps, decomposition}
use Rattle.split_state.specs.Step.{IsPartOf, IsStep, IsWhole, Listing, known, new, SplitBy, done, next, nonzero_of, value_matrix}
use Rattle.split_state.specs.Versions.{IsOperatorMatrix, IsVersion, OperatorsCommute, operators}
use Rattle.split_state.proofs.Keeping.{value_ends, value_keeps}
use Rattle.split_state.proofs.Parts.{nonzero_part}
use Rattle.split_state.proofs.SpanBases.{span_basis}
use Rattle.split_state.proofs.VersionSplittings.{listed_commute, version_splitting}
use Rattle.split_state.proofs.Versions.{version_characteristic, version_lists, version_more, version_sized, version_whole}

-- ---- the two parts hold combinations
kernel-zeros : {p : ℕ} (a rows : List (Vector p)) → generalised_kernel a rows zeros
kernel-zeros a rows = (0, record { inside = InSpan-zeros rows; is_zero = refl })

kernel-plus : {p : ℕ} (a rows : List (Vector p)) (v w : Vector p) → generalised_kernel a rows v → generalised_kernel a rows w
    → generalised_kernel a rows (v ⊞ w)
kernel-plus a rows v w (n, h) (m, g) = (
  n + m,
  record {
    inside = InSpan-plus rows v w h.inside g.inside;
    is_zero = power-plus (n + m) a v w ∙ ap (λ x. x ⊞ power (n + m) a w) gone ∙ ap (λ x. zeros ⊞ x) gone' ∙ plus-zeros zeros;
  },
)
  where
    gone : power (n + m) a v ≡ zeros
    gone = ap (λ k. power k a v) (let e : n + m ≡ m + n = omega arith in e) ∙ power-add m n a v ∙ ap (power m a) h.is_zero ∙ power-zeros m a

    gone' : power (n + m) a w ≡ zeros
    gone' = power-add n m a w ∙ ap (power n a) g.is_zero ∙ power-zeros n a

kernel-combination : {p : ℕ} (a rows : List (Vector p)) (c : Vector p) (zs : List (Vector p)) → Each (generalised_kernel a rows) zs
    → generalised_kernel a rows (combination c zs)
kernel-combination a rows c [] none = kernel-zeros a rows
kernel-combination a rows c (z ∷ zs) (more (n, h) hs) =
    kernel-plus a rows (c 0 ⊡ z) (combination (tail c) zs) (
      n,
      record {
        inside = InSpan-scale (c 0) rows z h.inside;
        is_zero = power-scale n a (c 0) z ∙ ap (λ x. c 0 ⊡ x) h.is_zero ∙ scale-zeros (c 0);
      },
    ) (kernel-combination a rows (tail c) zs hs)

image-zeros : {p : ℕ} (a rows : List (Vector p)) → eventual_image a rows zeros
image-zeros a rows n = record { source = zeros; inside = InSpan-zeros rows; is_value = sym (power-zeros n a) }

image-combination : {p : ℕ} (a rows : List (Vector p)) (c : Vector p) (us : List (Vector p)) → Each (eventual_image a rows) us
    → eventual_image a rows (combination c us)
image-combination a rows c us h n = image_from_span n a rows (combination c us)
    (InSpan-combination (map (power n a) rows) us c (Each-weaker us (λ u g. InSpan-image n a rows u (g n)) h))

image-inside : {p : ℕ} (a rows : List (Vector p)) (v : Vector p) → eventual_image a rows v → InSpan rows v
image-inside a rows v h = let t = h 0 in subst (InSpan rows) (sym t.is_value) t.inside

-- ---- the parts of the rows of a stable subspace
pub record AreParts {p : ℕ} (a rows vs : List (Vector p)) : Type 0 where
  pub kernels : List (Vector p)
  pub images : List (Vector p)
  pub kernel : Each (generalised_kernel a rows) kernels
  pub image : Each (eventual_image a rows) images
  pub sums : (c : Vector p) → combination c vs ≡ combination c kernels ⊞ combination c images

module _ {p : ℕ} (prime : IsPrime p) (d : ℕ) (a rows : List (Vector p)) (columns : Each (EndsBefore d) a) (ends : Each (EndsBefore d) rows)
    (s : IsStable a rows) where
  parts_of : (vs : List (Vector p)) → Each (InSpan rows) vs → AreParts a rows vs
  parts_of [] none = record { kernels = []; images = []; kernel = none; image = none; sums = λ c. sym (plus-zeros zeros) }
  parts_of (v ∷ vs) (more h hs) =
      let (z, u, hz, hu, e) = fitting_splits prime d a rows columns ends s v h in
      let rest = parts_of vs hs in
      record {
        kernels = z ∷ rest.kernels;
        images = u ∷ rest.images;
        kernel = more hz rest.kernel;
        image = more hu rest.image;
        sums = λ c. ap (λ x. (c 0 ⊡ x) ⊞ combination (tail c) vs) e ∙ ap (λ x. x ⊞ combination (tail c) vs) (scale-plus (c 0) z u)
            ∙ ap (λ x. ((c 0 ⊡ z) ⊞ (c 0 ⊡ u)) ⊞ x) (rest.sums (tail c))
            ∙ plus_middle (c 0 ⊡ z) (c 0 ⊡ u) (combination (tail c) rest.kernels) (combination (tail c) rest.images);
      }

  parts : AreParts a rows rows
  parts = parts_of rows (Each-InSpan rows)

  inside_ends : (vs : List (Vector p)) → Each (InSpan rows) vs → Each (EndsBefore d) vs
  inside_ends vs h = Each-weaker vs (λ v u. EndsBefore-InSpan d rows v ends u) h

  -- each is spanned by the parts of the rows
  kernel_all : (v : Vector p) → generalised_kernel a rows v → InSpan parts.kernels v
  kernel_all v (n, h) =
      let c = h.inside.coefficients in
      record {
        coefficients = c;
        is_combination = (fitting_once prime d a rows columns ends s v zeros (combination c parts.kernels) (combination c parts.images) (n, h)
            (kernel-combination a rows c parts.kernels parts.kernel) (image-zeros a rows)
            (image-combination a rows c parts.images parts.image)
            (plus-zeros v ∙ h.inside.is_combination ∙ parts.sums c)).0;
      }

  image_all : (v : Vector p) → eventual_image a rows v → InSpan parts.images v
  image_all v h =
      let t = image-inside a rows v h in
      let c = t.coefficients in
      record {
        coefficients = c;
        is_combination = (fitting_once prime d a rows columns ends s zeros v (combination c parts.kernels) (combination c parts.images)
            (kernel-zeros a rows) (kernel-combination a rows c parts.kernels parts.kernel) h
            (image-combination a rows c parts.images parts.image)
            (zeros-plus v ∙ t.is_combination ∙ parts.sums c)).1;
      }

  kernel_only : (v : Vector p) → InSpan parts.kernels v → generalised_kernel a rows v
  kernel_only v h = subst (generalised_kernel a rows) (sym h.is_combination) (kernel-combination a rows h.coefficients parts.kernels parts.kernel)

  image_only : (v : Vector p) → InSpan parts.images v → eventual_image a rows v
  image_only v h = subst (eventual_image a rows) (sym h.is_combination) (image-combination a rows h.coefficients parts.images parts.image)

  -- so each has a basis
  pub kernel_part : (ks : List Subspace) × IsPartOf p d (generalised_kernel a rows) ks
  kernel_part =
      let (b, h) = span_basis p d prime parts.kernels
      (inside_ends parts.kernels (Each-weaker parts.kernels (λ v u. u.1.inside) parts.kernel)) in (
        nonzero_of b,
        nonzero_part p d prime (generalised_kernel a rows) b
            (basis_of-same p d (InSpan parts.kernels) (generalised_kernel a rows) b kernel_only kernel_all h),
      )

  pub image_part : (is : List Subspace) × IsPartOf p d (eventual_image a rows) is
  image_part =
      let (b, h) = span_basis p d prime parts.images
      (inside_ends parts.images (Each-weaker parts.images (λ v u. image-inside a rows v u) parts.image)) in (
        nonzero_of b,
        nonzero_part p d prime (eventual_image a rows) b
            (basis_of-same p d (InSpan parts.images) (eventual_image a rows) b image_only image_all h),
      )

-- ---- the parts that a matrix makes
split_exists : (p d : ℕ) → IsPrime p → (a : List (Vector p)) → Each (EndsBefore d) a → (parts : List Subspace)
    → Each (λ (b : Subspace). IsBasisOf p d (InSpan (dense_rows p b.rows)) b) parts → Keeps p parts a
    → (news : List Subspace) × SplitBy p d a parts news
split_exists p d prime a columns [] none none = ([], done)
split_exists p d prime a columns (b ∷ parts) (more h hs) (more k ks) =
    let ends = rows_end p d b.rows h.rows_of in
    let (kernel, is_kernel) = kernel_part prime d a (dense_rows p b.rows) columns ends k in
    let (image, is_image) = image_part prime d a (dense_rows p b.rows) columns ends k in
    let (news, split) = split_exists p d prime a columns parts hs ks in
    (kernel ++ (image ++ news), next is_kernel is_image split)

-- ---- the operators that a step lists
index_of : OpName → ℕ
index_of (T n) = n
index_of Star = 0

same_or_not : (x y : OpName) → (x ≡ y) ⊎ (x ≢ y)
unfolding index_of
same_or_not (T n) (T m) = by_case (cases_eq n m)
  where
    by_case : (n ≡ m) ⊎ (n ≢ m) → (T n ≡ T m) ⊎ (T n ≢ T m)
    by_case (inl same) = inl (ap T same)
    by_case (inr other) = inr (λ e. other (ap index_of e))
same_or_not (T n) Star = inr (λ e. absurd cc)
same_or_not Star (T m) = inr (λ e. absurd cc)
same_or_not Star Star = inl refl

listed_or_not : (names : List OpName) (op : OpName) → Contains names op ⊎ (Contains names op → ⊥)
listed_or_not [] op = inr (λ (k, l, e). absurd (omega arith))
listed_or_not (name ∷ names) op = by_case (same_or_not name op) (listed_or_not names op)
  where
    neither : name ≢ op → (Contains names op → ⊥) → Contains (name ∷ names) op → ⊥
    neither other absent (zero, l, e) = other e
    neither other absent (suc k, l, e) = absent (k, omega arith, e)

    by_case : (name ≡ op) ⊎ (name ≢ op) → Contains names op ⊎ (Contains names op → ⊥)
        → Contains (name ∷ names) op ⊎ (Contains (name ∷ names) op → ⊥)
    by_case (inl same) rest = inl (0, omega arith, same)
    by_case (inr other) (inl (k, l, e)) = inl (suc k, omega arith, e)
    by_case (inr other) (inr absent) = inr (neither other absent)

pub record HasListing (names : List OpName) (matrices : List (List (List ℕ))) (op : OpName) (m : List (List ℕ)) : Type 0 where
  pub names_after : List OpName
  pub matrices_after : List (List (List ℕ))
  pub listing : Listing names matrices op m names_after matrices_after

listing_exists : (names : List OpName) (matrices : List (List (List ℕ))) (op : OpName) (m : List (List ℕ)) → HasListing names matrices op m
listing_exists names matrices op m = by_case (listed_or_not names op)
  where
    by_case : Contains names op ⊎ (Contains names op → ⊥) → HasListing names matrices op m
    by_case (inl there) = record { names_after = names; matrices_after = matrices; listing = known there }
    by_case (inr absent) = record { names_after = names ++ op ∷ []; matrices_after = matrices ++ m ∷ []; listing = new absent }

-- ---- the next splitting
pub step_exists : (s : Decomposition) (op : OpName) (m : List (List ℕ)) (f : List ℕ) → IsSplitting s → IsSized s.characteristic s.dim m
    → Centralises s.characteristic s.matrices (dense_rows s.characteristic m) → (r : Decomposition) × IsStep s op m f r
step_exists s op m f h sized central =
    let columns = subst (λ n. Each (EndsBefore n) (dense_rows s.characteristic m)) sized.size (rows_end s.characteristic (length m) m sized.matrix) in
    let (news, split) = split_exists s.characteristic s.dim (listed_prime s.characteristic h.listed)
    (value_matrix (map (residue s.characteristic) f) (dense_rows s.characteristic m) s.dim)
    (value_ends (map (residue s.characteristic) f) (dense_rows s.characteristic m) s.dim columns) s.parts h.bases (value_keeps s h m sized central f) in
    let listed = listing_exists s.names s.matrices op m in (
      decomposition s.characteristic s.dim news listed.names_after listed.matrices_after,
      record { characteristic = refl; dim = refl; parts = split; operators = listed.listing },
    )

-- ---- versions
-- the unit vectors
abbrev units : {p : ℕ} → ℕ → List (Vector p)
units d = map unit (range_with_len 0 d)

units_end : {p : ℕ} (d : ℕ) → Each (EndsBefore d) (units {p = p} d)
units_end {p} d = Each-rows (EndsBefore d) (units d) (λ j l.
    let w : j < d = omega (arith, length-map (range_with_len 0 d) (unit {p = p}), length-range_with_len 0 d) in
    subst (EndsBefore d) (sym (row-map unit (range_with_len 0 d) j 0 (omega (arith, length-range_with_len 0 d)) ∙ ap unit (in_range d j w)))
    (λ k u. unit_elsewhere j k (λ e. let same : j ≡ k = e in omega arith)))

-- span the whole space, so it has a basis
whole_part : (p d : ℕ) → IsPrime p → (parts : List Subspace) × IsPartOf p d (EndsBefore d) parts
whole_part p d prime =
    let (b, h) = span_basis p d prime (units d) (units_end d) in (
      nonzero_of b,
      nonzero_part p d prime (EndsBefore d) b (basis_of-same p d (InSpan (units d)) (EndsBefore d) b
          (λ v u. EndsBefore-InSpan d (units d) v (units_end d) u)
          (λ v u. record { coefficients = v; is_combination = sym (units_combine d v u) }) h),
    )

pub first_version : (g : Ground) → IsListed g.characteristic → (s : Decomposition) × IsVersion g [] s
first_version g listed =
    let (parts, is) = whole_part g.characteristic (dimension g.level g.characteristic) (listed_prime g.characteristic listed) in
    let whole : IsWhole g.characteristic (dimension g.level g.characteristic)
    (decomposition g.characteristic (dimension g.level g.characteristic) parts [] []) =
    record { characteristic = refl; dim = refl; parts = is; names = refl; matrices = refl } in
    (decomposition g.characteristic (dimension g.level g.characteristic) parts [] [], version_whole g _ whole)

pub next_version : (g : Ground) (entries : List SplitEntry) (e : SplitEntry) (s : Decomposition) (m : List (List ℕ)) → IsVersion g entries s
    → IsSplitting s → IsOperatorMatrix g e.op m → Centralises s.characteristic s.matrices (dense_rows s.characteristic m)
    → (r : Decomposition) × IsVersion g (entries ++ e ∷ []) r
next_version g entries e s m h splits is central =
    let (r, step) = step_exists s e.op m e.poly splits (version_sized g entries s e.op m h is) central in
    (r, version_more g entries e s r h (record { matrix = m; operator = is; step = step }))

-- so entries have a version, where their operators have matrices that commute
versions_from : (g : Ground) → IsListed g.characteristic → (before entries : List SplitEntry) (s : Decomposition) → IsVersion g before s
    → OperatorsCommute g (before ++ entries)
    → ((op : OpName) → Contains (operators entries) op → (m : List (List ℕ)) × IsOperatorMatrix g op m)
    → (r : Decomposition) × IsVersion g (before ++ entries) r
versions_from g listed before [] s h commute matrices = (s, subst (λ es. IsVersion g es s) (sym (append-nil before)) h)
versions_from g listed before (e ∷ entries) s h commute matrices =
    let (m, is) = matrices e.op (0, omega arith, refl) in
    let splits = version_splitting g listed before s (record { commute = λ op other x y. commute.commute op other (early op x) (early other y) }) h in
    let central = listed_commute g (operators before) s (version_characteristic g before s h) (version_lists g before s h) e.op m is
    (λ other c. commute.commute e.op other here (early other c)) in
    let (t, k) = next_version g before e s m h splits is central in
    let (r, after) = versions_from g listed (before ++ e ∷ []) entries t k (subst (OperatorsCommute g) (sym same) commute) later in
    (r, subst (λ es. IsVersion g es r) same after)
  where
    same : (before ++ e ∷ []) ++ entries ≡ before ++ e ∷ entries
    same = append_assoc before (e ∷ []) entries

    all : operators (before ++ e ∷ entries) ≡ operators before ++ e.op ∷ operators entries
    all = map-append (λ (x : SplitEntry). x.op) before (e ∷ entries)

    here : Contains (operators (before ++ e ∷ entries)) e.op
    here = subst (λ ops. Contains ops e.op) (sym all) (Contains-append_right (operators before) (e.op ∷ operators entries) e.op (0, omega arith, refl))

    early : (op : OpName) → Contains (operators before) op → Contains (operators (before ++ e ∷ entries)) op
    early op c = subst (λ ops. Contains ops op) (sym all) (Contains-append_left (operators before) (e.op ∷ operators entries) op c)

    later : (op : OpName) → Contains (operators entries) op → (m : List (List ℕ)) × IsOperatorMatrix g op m
    later op (k, l, same) = matrices op (suc k, omega arith, same)

pub version_exists : (g : Ground) (entries : List SplitEntry) → IsListed g.characteristic → OperatorsCommute g entries
    → ((op : OpName) → Contains (operators entries) op → (m : List (List ℕ)) × IsOperatorMatrix g op m)
    → (s : Decomposition) × IsVersion g entries s
version_exists g entries listed commute matrices =
    let (s, h) = first_version g listed in versions_from g listed [] entries s h commute matrices
