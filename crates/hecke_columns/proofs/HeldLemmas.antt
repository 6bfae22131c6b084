-- The entries of tables, each with a property.
use Rattle.std.proofs.Common.{◌≡◌, ℕ, Bool, true, false, cond, List, [], ◌∷◌, All, Option, None, Some, is_some, nat_eq, refl, sym, ◌∙◌, subst}
use Rattle.std.specs.Map.{lookup}
use Rattle.std.proofs.lemmas.Bool.{eqb-true}
use Rattle.std.proofs.lemmas.List.Elements.{All-head, All-tail}
use Rattle.hecke_columns.specs.Held.{AreHeldSteps}

-- the value that a look-up finds has the property, at a key that passes
pub All-lookup : {K X : Type 0} (P : K × X → Type 0) (test : K → Bool) (es : List (K × X)) (v : X) → lookup test es ≡ Some v → All P es
    → (k : K) × (test k ≡ true) × P (k, v)
All-lookup P test [] v found all = absurd cc
All-lookup {K} {X} P test (e ∷ es) v found all = by (test e.0) refl found (λ same. All-lookup P test es v same (All-tail P e es all))
  where
    by : (t : Bool) → test e.0 ≡ t → cond t (Some e.1) (lookup test es) ≡ Some v
        → (lookup test es ≡ Some v → (k : K) × (test k ≡ true) × P (k, v)) → (k : K) × (test k ≡ true) × P (k, v)
    by true passes same later = (e.0, passes, subst (λ x. P (e.0, x)) (let inner : e.1 ≡ v = cc in inner) (All-head P e es all))
    by false fails same later = later same

-- the steps that are found at n are those of n
pub steps_found : (n s : ℕ) (entries : List (ℕ × ℕ)) → lookup (nat_eq n) entries ≡ Some s → AreHeldSteps entries → s ≡ n
steps_found n s entries found all =
    let at = All-lookup (λ (e : ℕ × ℕ). e.1 ≡ e.0) (nat_eq n) entries s found all in
    at.2 ∙ sym (eqb-true n at.0 at.1)

-- none is what is not some
pub none_is : {X : Type 0} (o : Option X) → is_some o ≡ false → o ≡ None
none_is None e = refl
none_is (Some x) e = absurd cc
