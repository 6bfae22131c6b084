-- Versions are splittings where operators commute.
use Rattle.std.proofs.Common.{◌≡◌, ◌<◌, ℕ, suc, List, [], ◌∷◌, ◌++◌, Contains, length, get_or, refl, sym, subst, arith}
use Rattle.std.proofs.lemmas.List.{append_assoc, map-append}
use Rattle.std.proofs.lemmas.List.Elements.{Contains-append_left, Contains-append_right, Contains-get_or}
use Rattle.field_table.specs.Table.{IsListed}
use Rattle.linear_algebra.specs.Dense.{dense_rows}
use Rattle.linear_algebra.specs.Span.{Each, none, more}
use Rattle.stable_subspaces.specs.Operator.{Commute}
use Rattle.op_polynomials.specs.declared.name.OpName.{OpName}
use Rattle.op_polynomials.specs.declared.name.OpName.TheVariants.{Star}
use Rattle.op_polynomials.specs.declared.entry.SplitEntry.{SplitEntry}
use Rattle.quotient_coords.specs.Quotient.{Ground, dimension}
use Rattle.split_state.specs.Decomposition.{Decomposition, Centralises, IsSized, IsSplitting, decomposition}
use Rattle.split_state.specs.Difference.{AgreesWithListed}
use Rattle.split_state.specs.Refinement.{Refines}
use Rattle.split_state.specs.Step.{IsWhole}
use Rattle.split_state.specs.Versions.{IsOperatorMatrix, IsEntryStep, IsVersionFrom, unchanged, stepped, IsVersion, operators, AreListed, HaveCommutingMatrices, OperatorsCommute}
use Rattle.split_state.proofs.Differences.{agree_centralises}
use Rattle.split_state.proofs.Keeping.{step_keeps, step_refines}
use Rattle.split_state.proofs.Versions.{version_lists, version_matches, version_more, version_sized, version_characteristic, version_none, version_whole}
use Rattle.split_state.proofs.Wholes.{whole_splits}

-- what holds at each place holds of each
each_from_places : {A : Type 0} (P : A → Type 0) (xs : List A) (d : A) → ((k : ℕ) → k < length xs → P (get_or xs k d)) → Each P xs
each_from_places P [] d h = none
each_from_places P (x ∷ xs) d h = more (h 0 (omega arith)) (each_from_places P xs d (λ k l. h (suc k) (omega arith)))

-- a matrix that agrees with each listed one commutes with each
pub agreeing_centralises : (s : Decomposition) (a : List (List ℕ)) → IsSplitting s → IsSized s.characteristic s.dim a → AgreesWithListed s a
    → Centralises s.characteristic s.matrices (dense_rows s.characteristic a)
agreeing_centralises s a h sized agree = agree_centralises s.characteristic s.dim a sized s.matrices h.sized agree.agree

-- the matrix of an operator that commutes with each listed one does
pub listed_commute : (g : Ground) (ops : List OpName) (s : Decomposition) → s.characteristic ≡ g.characteristic → AreListed g ops s.names s.matrices
    → (op : OpName) (m : List (List ℕ)) → IsOperatorMatrix g op m → ((other : OpName) → Contains ops other → HaveCommutingMatrices g op other)
    → Centralises s.characteristic s.matrices (dense_rows s.characteristic m)
listed_commute g ops s same h op m is commute = each_from_places (λ o. Commute (dense_rows s.characteristic m) (dense_rows s.characteristic o))
    s.matrices [] (λ k l.
    let w : k < length s.names = omega (arith, h.many) in
    subst (λ p. Commute (dense_rows p m) (dense_rows p (get_or s.matrices k []))) (sym same)
    (commute (get_or s.names k Star) ((h.named (get_or s.names k Star)).0 (Contains-get_or s.names k Star w)) m (get_or s.matrices k []) is
    (h.matrix k w)))

-- the whole space is a splitting
pub whole_splitting : (p d : ℕ) → IsListed p → (s : Decomposition) → IsWhole p d s → IsSplitting s
whole_splitting p d listed s w = subst IsSplitting same (whole_splits p d listed s.parts w.parts)
  where
    same : decomposition p d s.parts [] [] ≡ s
    same = λ i. decomposition (sym w.characteristic i) (sym w.dim i) s.parts (sym w.names i) (sym w.matrices i)

pub first_splitting : (g : Ground) → IsListed g.characteristic → (s : Decomposition) → IsVersion g [] s → IsSplitting s
first_splitting g listed s h = whole_splitting g.characteristic (dimension g.level g.characteristic) listed s (version_none g s h)

-- the next version is one, if the matrix of its operator commutes with the listed ones
pub next_splitting : (g : Ground) → IsListed g.characteristic → (entries : List SplitEntry) (e : SplitEntry) (s r : Decomposition)
    → IsVersion g entries s
    → IsSplitting s → (k : IsEntryStep g s e r) → Centralises s.characteristic s.matrices (dense_rows s.characteristic k.matrix) → IsSplitting r
next_splitting g listed entries e s r h splits k central =
    step_keeps s r e.op k.matrix e.poly splits (version_sized g entries s e.op k.matrix h k.operator) central
    (version_matches g listed entries s e.op k.matrix h k.operator) k.step

pub entry_refines : (g : Ground) (s : Decomposition) (e : SplitEntry) (r : Decomposition) → IsEntryStep g s e r → Refines r s
entry_refines g s e r k = step_refines s r e.op k.matrix e.poly k.step

-- so are all versions where the operators commute
splitting_from : {g : Ground} {s r : Decomposition} {entries : List SplitEntry} → IsListed g.characteristic → (done : List SplitEntry)
    → IsVersion g done s
    → IsSplitting s → OperatorsCommute g (done ++ entries) → IsVersionFrom g s entries r → IsSplitting r
splitting_from listed done h splits commute unchanged = splits
splitting_from {g = g} {s = s} listed done h splits commute (stepped {t = t} {e = e} {entries = entries} k a) =
    splitting_from listed (done ++ e ∷ []) (version_more g done e s t h k) (next_splitting g listed done e s t h splits k central)
    (subst (OperatorsCommute g) (sym (append_assoc done (e ∷ []) entries)) commute) a
  where
    all : operators (done ++ e ∷ entries) ≡ operators done ++ e.op ∷ operators entries
    all = map-append (λ (x : SplitEntry). x.op) done (e ∷ entries)

    here : Contains (operators (done ++ e ∷ entries)) e.op
    here = subst (λ ops. Contains ops e.op) (sym all) (Contains-append_right (operators done) (e.op ∷ operators entries) e.op (0, omega arith, refl))

    before : (op : OpName) → Contains (operators done) op → Contains (operators (done ++ e ∷ entries)) op
    before op c = subst (λ ops. Contains ops op) (sym all) (Contains-append_left (operators done) (e.op ∷ operators entries) op c)

    central : Centralises s.characteristic s.matrices (dense_rows s.characteristic k.matrix)
    central = listed_commute g (operators done) s (version_characteristic g done s h) (version_lists g done s h) e.op k.matrix k.operator
        (λ other c. commute.commute e.op other here (before other c))

pub version_splitting : (g : Ground) → IsListed g.characteristic → (entries : List SplitEntry) (s : Decomposition) → OperatorsCommute g entries
    → IsVersion g entries s → IsSplitting s
version_splitting g listed entries s commute h =
    let first : IsVersion g [] h.start = version_whole g h.start h.whole in
    splitting_from listed [] first (first_splitting g listed h.start first) commute h.steps
