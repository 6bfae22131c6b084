-- Versions: one of each list of entries, and what it lists.
use Rattle.std.proofs.Common.{◌≡◌, ◌⊎◌, ◌+◌, ◌<◌, ◌≤◌, ℕ, List, [], ◌∷◌, ◌++◌, Contains, length, length-append, get_or, refl, sym, ◌∙◌, subst, arith, inl, inr, append-nil}
use Rattle.std.proofs.Math.ListN.{get_or-append}
use Rattle.std.proofs.lemmas.Bool.{cases_lt}
use Rattle.std.proofs.lemmas.List.{append_assoc, get_or_default, get_or_push}
use Rattle.std.proofs.lemmas.List.Elements.{Contains-append_left, Contains-push, Contains-push_cases, Contains-get_or}
use Rattle.field_table.specs.Table.{IsListed}
use Rattle.field_table.proofs.TableFacts.{listed_prime}
use Rattle.linear_algebra.specs.Prime.{IsPrime}
use Rattle.linear_algebra.specs.Vector.{EndsBefore}
use Rattle.op_polynomials.specs.declared.name.OpName.{OpName}
use Rattle.op_polynomials.specs.declared.name.OpName.TheVariants.{T, Star}
use Rattle.op_polynomials.specs.declared.entry.SplitEntry.{SplitEntry}
use Rattle.quotient_coords.specs.Quotient.{Ground, dimension}
use Rattle.quotient_coords.proofs.Maps.{matrix_heights, matrix_residues, matrix_once}
use Rattle.split_state.specs.Decomposition.{Decomposition, IsSized, MatchesListed}
use Rattle.split_state.specs.Step.{IsStep, IsWhole, Listing, known, new}
use Rattle.split_state.specs.Versions.{IsOperatorMatrix, IsEntryStep, IsVersionFrom, unchanged, stepped, IsVersion, operators, AreListed, ListsOperators}
use Rattle.split_state.proofs.Unique.{part_once, step_once}

-- an operator has one matrix
pub operator_matrix_once : (g : Ground) → IsPrime g.characteristic → (op : OpName) (m o : List (List ℕ)) → IsOperatorMatrix g op m
    → IsOperatorMatrix g op o → m ≡ o
operator_matrix_once g prime (T n) m o = matrix_once prime g.level _ m o
operator_matrix_once g prime Star m o = matrix_once prime g.level _ m o

-- of the size of the space
pub operator_matrix_sized : (g : Ground) (op : OpName) (m : List (List ℕ)) → IsOperatorMatrix g op m
    → IsSized g.characteristic (dimension g.level g.characteristic) m
operator_matrix_sized g (T n) m h = record {
  matrix = record {
    sized = matrix_heights g.level _ m h;
    residues = matrix_residues g.level _ m h;
  };
  size = h.count;
}
operator_matrix_sized g Star m h = record {
  matrix = record {
    sized = matrix_heights g.level _ m h;
    residues = matrix_residues g.level _ m h;
  };
  size = h.count;
}

-- the whole space is one
whole_once : (p d : ℕ) → IsPrime p → (s t : Decomposition) → IsWhole p d s → IsWhole p d t → s ≡ t
whole_once p d prime s t h g =
    let parts : s.parts ≡ t.parts = part_once p d prime (EndsBefore d) h.parts g.parts in
    λ i. record {
      characteristic = (h.characteristic ∙ sym g.characteristic) i;
      dim = (h.dim ∙ sym g.dim) i;
      parts = parts i;
      names = (h.names ∙ sym g.names) i;
      matrices = (h.matrices ∙ sym g.matrices) i;
    }

-- a step by an entry has one outcome
entry_step_once : (g : Ground) → IsListed g.characteristic → (s : Decomposition) → s.characteristic ≡ g.characteristic
    → (e : SplitEntry) (r t : Decomposition)
    → IsEntryStep g s e r → IsEntryStep g s e t → r ≡ t
entry_step_once g listed s same e r t h k =
    let one : k.matrix ≡ h.matrix = operator_matrix_once g (listed_prime g.characteristic listed) e.op k.matrix h.matrix k.operator h.operator in
    step_once s e.op h.matrix e.poly r t (subst IsListed (sym same) listed) h.step (subst (λ m. IsStep s e.op m e.poly t) one k.step)

-- so entries have
version_from_once : (g : Ground) → IsListed g.characteristic → {s r t : Decomposition} {entries : List SplitEntry}
    → s.characteristic ≡ g.characteristic
    → IsVersionFrom g s entries r → IsVersionFrom g s entries t → r ≡ t
version_from_once g listed same unchanged unchanged = refl
version_from_once g listed {s = s} {t = t} same (stepped {t = v} {e = e} {entries = entries} h a) (stepped {t = w} k b) =
    let one : v ≡ w = entry_step_once g listed s same e v w h k in
    version_from_once g listed (h.step.characteristic ∙ same) a (subst (λ x. IsVersionFrom g x entries t) (sym one) b)

-- and a list has one version
pub version_once : (g : Ground) → IsListed g.characteristic → (entries : List SplitEntry) (s t : Decomposition) → IsVersion g entries s
    → IsVersion g entries t → s ≡ t
version_once g listed entries s t h k =
    let one : k.start ≡ h.start = whole_once g.characteristic (dimension g.level g.characteristic) (listed_prime g.characteristic listed) k.start
    h.start k.whole h.whole in
    version_from_once g listed h.whole.characteristic h.steps (subst (λ x. IsVersionFrom g x entries t) one k.steps)

-- one entry more is one step more
step_after : {g : Ground} {s t : Decomposition} {entries : List SplitEntry} (e : SplitEntry) (r : Decomposition) → IsVersionFrom g s entries t
    → IsEntryStep g t e r
    → IsVersionFrom g s (entries ++ e ∷ []) r
step_after e r unchanged h = stepped h unchanged
step_after e r (stepped k a) h = stepped k (step_after e r a h)

-- and the last entry is the last step
step_before : {g : Ground} {s r : Decomposition} (entries : List SplitEntry) (e : SplitEntry) → IsVersionFrom g s (entries ++ e ∷ []) r
    → (t : Decomposition) × IsVersionFrom g s entries t × IsEntryStep g t e r
step_before {s = s} [] e (stepped h unchanged) = (s, unchanged, h)
step_before (x ∷ entries) e (stepped h a) = let (t, b, k) = step_before entries e a in (t, stepped h b, k)

pub version_more : (g : Ground) (entries : List SplitEntry) (e : SplitEntry) (s r : Decomposition) → IsVersion g entries s → IsEntryStep g s e r
    → IsVersion g (entries ++ e ∷ []) r
version_more g entries e s r h k = record { start = h.start; whole = h.whole; steps = step_after e r h.steps k }

pub version_last : (g : Ground) (entries : List SplitEntry) (e : SplitEntry) (r : Decomposition) → IsVersion g (entries ++ e ∷ []) r
    → (s : Decomposition) × IsVersion g entries s × IsEntryStep g s e r
version_last g entries e r h = let (s, a, k) = step_before entries e h.steps in (s, record { start = h.start; whole = h.whole; steps = a }, k)

-- no entry leaves the whole space
pub version_none : (g : Ground) (s : Decomposition) → IsVersion g [] s → IsWhole g.characteristic (dimension g.level g.characteristic) s
version_none g s h = at h.steps h.whole
  where
    at : {t : Decomposition} → IsVersionFrom g t [] s → IsWhole g.characteristic (dimension g.level g.characteristic) t
        → IsWhole g.characteristic (dimension g.level g.characteristic) s
    at unchanged w = w

pub version_whole : (g : Ground) (s : Decomposition) → IsWhole g.characteristic (dimension g.level g.characteristic) s → IsVersion g [] s
version_whole g s w = record { start = s; whole = w; steps = unchanged }

-- steps keep the setting
pub from_characteristic : {g : Ground} {s r : Decomposition} {entries : List SplitEntry} → IsVersionFrom g s entries r
    → r.characteristic ≡ s.characteristic
from_characteristic unchanged = refl
from_characteristic (stepped h a) = from_characteristic a ∙ h.step.characteristic

pub from_dim : {g : Ground} {s r : Decomposition} {entries : List SplitEntry} → IsVersionFrom g s entries r → r.dim ≡ s.dim
from_dim unchanged = refl
from_dim (stepped h a) = from_dim a ∙ h.step.dim

pub version_characteristic : (g : Ground) (entries : List SplitEntry) (s : Decomposition) → IsVersion g entries s
    → s.characteristic ≡ g.characteristic
version_characteristic g entries s h = from_characteristic h.steps ∙ h.whole.characteristic

pub version_dim : (g : Ground) (entries : List SplitEntry) (s : Decomposition) → IsVersion g entries s → s.dim ≡ dimension g.level g.characteristic
version_dim g entries s h = from_dim h.steps ∙ h.whole.dim

-- one operator more
list_more : (g : Ground) (ops : List OpName) (op : OpName) (m : List (List ℕ)) {names others : List OpName} {matrices columns : List (List (List ℕ))}
    → IsOperatorMatrix g op m → AreListed g ops names matrices → Listing names matrices op m others columns
    → AreListed g (ops ++ op ∷ []) others columns
list_more g ops op m {names = names} {matrices = matrices} is h (known there) = record {
  many = h.many;
  named = λ o. (λ c. Contains-append_left ops (op ∷ []) o ((h.named o).0 c), λ c. back o (Contains-push_cases ops op o c));
  once = h.once;
  matrix = h.matrix;
}
  where
    back : (o : OpName) → Contains ops o ⊎ (op ≡ o) → Contains names o
    back o (inl c) = (h.named o).1 c
    back o (inr e) = subst (Contains names) e there
list_more g ops op m {names = names} {matrices = matrices} is h (new absent) = record {
  many = omega (arith, length-append matrices (m ∷ []), length-append names (op ∷ []), h.many);
  named = λ o. (λ c. forth o (Contains-push_cases names op o c), λ c. back o (Contains-push_cases ops op o c));
  once = λ i j l w e. twice i j l (omega (arith, w, length-append names (op ∷ []))) (cases_lt j (length names)) e;
  matrix = λ k l. at k (omega (arith, l, length-append names (op ∷ []))) (cases_lt k (length names));
}
  where
    forth : (o : OpName) → Contains names o ⊎ (op ≡ o) → Contains (ops ++ op ∷ []) o
    forth o (inl c) = Contains-append_left ops (op ∷ []) o ((h.named o).0 c)
    forth o (inr e) = subst (Contains (ops ++ op ∷ [])) e (Contains-push ops op)

    back : (o : OpName) → Contains ops o ⊎ (op ≡ o) → Contains (names ++ op ∷ []) o
    back o (inl c) = Contains-append_left names (op ∷ []) o ((h.named o).1 c)
    back o (inr e) = subst (Contains (names ++ op ∷ [])) e (Contains-push names op)

    before : (i : ℕ) → i < length names → get_or (names ++ op ∷ []) i Star ≡ get_or names i Star
    before i l = get_or-append names (op ∷ []) Star i l

    last : (i : ℕ) → i ≡ length names → get_or (names ++ op ∷ []) i Star ≡ op
    last i e = get_or_push names op Star i (sym e)

    twice : (i j : ℕ) → i < j → j < length names + 1 → (j < length names) ⊎ (length names ≤ j)
        → get_or (names ++ op ∷ []) i Star ≡ get_or (names ++ op ∷ []) j Star → ⊥
    twice i j l w (inl u) e = h.once i j l u (sym (before i (omega arith)) ∙ e ∙ before j u)
    twice i j l w (inr u) e =
        absent (subst (Contains names) (sym (before i (omega arith)) ∙ e ∙ last j (omega arith)) (Contains-get_or names i Star (omega arith)))

    at : (k : ℕ) → k < length names + 1 → (k < length names) ⊎ (length names ≤ k)
        → IsOperatorMatrix g (get_or (names ++ op ∷ []) k Star) (get_or (matrices ++ m ∷ []) k [])
    at k l (inl u) = subst (λ o. IsOperatorMatrix g o (get_or (matrices ++ m ∷ []) k [])) (sym (before k u))
        (subst (IsOperatorMatrix g (get_or names k Star)) (sym (get_or-append matrices (m ∷ []) [] k (omega (arith, h.many)))) (h.matrix k u))
    at k l (inr u) = subst (λ o. IsOperatorMatrix g o (get_or (matrices ++ m ∷ []) k [])) (sym (last k (omega arith)))
        (subst (IsOperatorMatrix g op) (sym (get_or_push matrices m [] k (omega (arith, h.many)))) is)

-- entries list their operators after those that are listed
pub list_from : {g : Ground} {s r : Decomposition} {entries : List SplitEntry} (ops : List OpName) → AreListed g ops s.names s.matrices
    → IsVersionFrom g s entries r → AreListed g (ops ++ operators entries) r.names r.matrices
list_from {g = g} {s = s} ops h unchanged = subst (λ xs. AreListed g xs s.names s.matrices) (sym (append-nil ops)) h
list_from {g = g} {r = r} ops h (stepped {e = e} {entries = entries} k a) =
    subst (λ xs. AreListed g xs r.names r.matrices) (append_assoc ops (e.op ∷ []) (operators entries))
    (list_from (ops ++ e.op ∷ []) (list_more g ops e.op k.matrix k.operator h k.step.operators) a)

-- the whole space lists none
pub whole_lists : (g : Ground) (p d : ℕ) (s : Decomposition) → IsWhole p d s → AreListed g [] s.names s.matrices
whole_lists g p d s w = subst (AreListed g [] s.names) (sym w.matrices) (subst (λ xs. AreListed g [] xs []) (sym w.names) (record {
  many = refl;
  named = λ o. (λ c. c, λ c. c);
  once = λ i j l u. absurd (omega arith);
  matrix = λ k l. absurd (omega arith);
}))

-- so a version lists the operators of its entries
pub version_lists : (g : Ground) (entries : List SplitEntry) (s : Decomposition) → IsVersion g entries s → ListsOperators g entries s
version_lists g entries s h = list_from [] (whole_lists g g.characteristic (dimension g.level g.characteristic) h.start h.whole) h.steps

-- a listed matrix is the operator's
listed_matches : (g : Ground) → IsListed g.characteristic → (ops : List OpName) (s : Decomposition) → AreListed g ops s.names s.matrices
    → (op : OpName) (m : List (List ℕ)) → IsOperatorMatrix g op m → MatchesListed s op m
listed_matches g listed ops s h op m is k l e =
    operator_matrix_once g (listed_prime g.characteristic listed) op (get_or s.matrices k []) m
    (subst (λ o. IsOperatorMatrix g o (get_or s.matrices k [])) (get_or_default s.names k Star op l ∙ e) (h.matrix k l)) is

pub version_matches : (g : Ground) → IsListed g.characteristic → (entries : List SplitEntry) (s : Decomposition) (op : OpName) (m : List (List ℕ))
    → IsVersion g entries s → IsOperatorMatrix g op m → MatchesListed s op m
version_matches g listed entries s op m h is = listed_matches g listed (operators entries) s (version_lists g entries s h) op m is

-- and an operator's matrix has the size of the version
pub version_sized : (g : Ground) (entries : List SplitEntry) (s : Decomposition) (op : OpName) (m : List (List ℕ)) → IsVersion g entries s
    → IsOperatorMatrix g op m → IsSized s.characteristic s.dim m
version_sized g entries s op m h is =
    subst (λ p. IsSized p s.dim m) (sym (version_characteristic g entries s h))
    (subst (λ n. IsSized g.characteristic n m) (sym (version_dim g entries s h)) (operator_matrix_sized g op m is))
