-- The history only grows, and what the sessions have learnt of it never shrinks.
use Rattle.std.proofs.Common.{◌≡◌, ℕ, zero, suc, ◌+◌, ◌-◌, ◌≤◌, ◌==◌, nat_lt, if◌then◌else◌, Bool, true, false, List, [], ◌∷◌, ◌++◌, length, slice_index, slice_set, replicate, ◌⊎◌, inl, inr, refl, sym, ap, subst, ◌∙◌, arith}
use Rattle.std.proofs.lemmas.List.{append-nil}
use Rattle.quotient_coords.specs.Quotient.{Ground}
use Rattle.op_polynomials.specs.declared.entry.SplitEntry.{SplitEntry}
use Rattle.reply_text.specs.declared.limits.TheConstants.{MAX_VERSIONS}
use Rattle.shared_core.specs.declared.step.CoreStep.{CoreStep}
use Rattle.shared_core.specs.declared.step.Act.{Act}
use Rattle.shared_core.specs.declared.step.Act.TheVariants.{Learn, Look, Publish, Abandon, Commit}
use Rattle.shared_core.specs.declared.step.Outcome.{Outcome}
use Rattle.shared_core.specs.declared.step.Outcome.TheVariants.{Stale, Full, Committed}
use Rattle.shared_core.specs.Core.{CoreState, Does, IsRun, commit_outcome, committed, learnt_of, core_start}
use Rattle.shared_core.specs.Growth.{IsWithin, Follows}
use Rattle.shared_core.specs.Verdicts.{Verdict, accepted, relation, commutator}

index_after : (xs : List ℕ) (j n k : ℕ) → (slice_index (slice_set xs j n) k ≡ n) ⊎ (slice_index (slice_set xs j n) k ≡ slice_index xs k)
index_after [] j n k = inr refl
index_after (x ∷ xs) zero n zero = inl refl
index_after (x ∷ xs) zero n (suc k) = inr refl
index_after (x ∷ xs) (suc j) n zero = inr refl
index_after (x ∷ xs) (suc j) n (suc k) = index_after xs j n k

-- a state with the same history and learnt lengths
same : (s t : CoreState) → IsWithin s → t.history ≡ s.history → t.learnt ≡ s.learnt → IsWithin t × Follows s t
same s t within history learnt = (
  λ k. subst (λ ns. slice_index ns k ≤ length t.history) (sym learnt) (subst (λ h. slice_index s.learnt k ≤ length h) (sym history) (within k)),
  record {
    more = [];
    history = history ∙ sym (append-nil s.history);
    learnt = λ k. subst (λ ns. slice_index s.learnt k ≤ slice_index ns k)
        (sym learnt) (omega arith);
  },
)

-- a session learns the length
learns : (s t : CoreState) (j : ℕ) (more : List SplitEntry) → IsWithin s → t.history ≡ s.history ++ more
    → t.learnt ≡ slice_set s.learnt j (length (s.history ++ more)) → length s.history ≤ length (s.history ++ more)
    → IsWithin t × Follows s t
learns s t j more within history learnt grows = (
  λ k. subst (λ ns. slice_index ns k ≤ length t.history) (sym learnt)
      (subst (λ h. slice_index (slice_set s.learnt j (length (s.history ++ more))) k ≤ length h) (sym history)
      (elim (index_after s.learnt j (length (s.history ++ more)) k) [ inl is ↦ omega (arith, is) | inr is ↦ omega (arith, is, within k) ])),
  record {
    more = more;
    history = history;
    learnt = λ k. subst (λ ns. slice_index s.learnt k ≤ slice_index ns k) (sym learnt)
        (elim (index_after s.learnt j (length (s.history ++ more)) k) [ inl is ↦ omega (arith, is, within k) | inr is ↦ omega (arith, is) ]);
  },
)

length_more : (xs : List SplitEntry) (x : SplitEntry) → length (xs ++ x ∷ []) ≡ length xs + 1
length_more [] x = refl
length_more (y ∷ xs) x = ap suc (length_more xs x) ∙ omega arith

Follows-commit : (s t : CoreState) (session : ℕ) (entry : SplitEntry) (v : Verdict) → IsWithin s
    → t ≡ committed s session entry (commit_outcome v (learnt_of s session) (length s.history)) → IsWithin t × Follows s t
Follows-commit s t session entry (relation k) within is = same s t within (ap (λ x. x.history) is) (ap (λ x. x.learnt) is)
Follows-commit s t session entry commutator within is = same s t within (ap (λ x. x.history) is) (ap (λ x. x.learnt) is)
Follows-commit s t session entry accepted within is = by (nat_lt (learnt_of s session) (length s.history)) (length s.history == MAX_VERSIONS) is
  where
    by : (a b : Bool)
        → t ≡ committed s session entry (if a then Stale (length s.history) else (if b then Full else Committed (length s.history + 1)))
        → IsWithin t × Follows s t
    by true b e = same s t within (ap (λ x. x.history) e) (ap (λ x. x.learnt) e)
    by false true e = same s t within (ap (λ x. x.history) e) (ap (λ x. x.learnt) e)
    by false false e =
        learns s t (session - 1) (entry ∷ []) within (ap (λ x. x.history) e)
        (ap (λ x. x.learnt) e ∙ ap (slice_set s.learnt (session - 1)) (sym (length_more s.history entry))) (omega (arith, length_more s.history entry))

Follows-act : (setting : Ground) (s : CoreState) (session : ℕ) (act : Act) (o : Outcome) (t : CoreState) → IsWithin s
    → Does setting s session act o t → IsWithin t × Follows s t
Follows-act setting s session Learn o t within d =
    learns s t (session - 1) [] within (ap (λ x. x.history) d.1 ∙ sym (append-nil s.history))
    (ap (λ x. x.learnt) d.1 ∙ ap (λ h. slice_set s.learnt (session - 1) (length h)) (sym (append-nil s.history)))
    (omega (arith, ap length (append-nil s.history)))
Follows-act setting s session (Look key) o t within d = same s t within (ap (λ x. x.history) d.1) (ap (λ x. x.learnt) d.1)
Follows-act setting s session (Publish key) o t within d = same s t within (ap (λ x. x.history) d.1) (ap (λ x. x.learnt) d.1)
Follows-act setting s session (Abandon key) o t within d = same s t within (ap (λ x. x.history) d.1) (ap (λ x. x.learnt) d.1)
Follows-act setting s session (Commit command op poly) o t within d =
    Follows-commit s t session (record { session = session; command = command; op = op; poly = poly }) d.1 within
    (d.5 ∙ ap (committed s session (record { session = session; command = command; op = op; poly = poly })) d.4)

pub Follows-run : (setting : Ground) (sessions : ℕ) (s : CoreState) (steps : List CoreStep) (os : List Outcome) (t : CoreState) → IsWithin s
    → IsRun setting sessions s steps os t → IsWithin t × Follows s t
Follows-run setting sessions s [] os t within d = same s t within (ap (λ x. x.history) d.1) (ap (λ x. x.learnt) d.1)
Follows-run setting sessions s (x ∷ steps) os t within d =
    let first = Follows-act setting s x.session x.act d.0 d.1 within d.4 in
    let rest = Follows-run setting sessions d.1 steps d.2 t first.0 d.6 in (
      rest.0,
      record {
        more = first.1.more ++ rest.1.more;
        history = rest.1.history ∙ ap (λ h. h ++ rest.1.more) first.1.history ∙ append_assoc s.history first.1.more rest.1.more;
        learnt = λ k. omega (arith, first.1.learnt k, rest.1.learnt k);
      },
    )
  where
    append_assoc : (a b c : List SplitEntry) → (a ++ b) ++ c ≡ a ++ (b ++ c)
    append_assoc [] b c = refl
    append_assoc (y ∷ a) b c = ap (λ l. y ∷ l) (append_assoc a b c)

pub start_within : (sessions : ℕ) → IsWithin (core_start sessions)
start_within sessions k = by sessions k
  where
    by : (n j : ℕ) → slice_index (replicate n 0) j ≤ 0
    by zero j = omega arith
    by (suc n) zero = omega arith
    by (suc n) (suc j) = by n j
