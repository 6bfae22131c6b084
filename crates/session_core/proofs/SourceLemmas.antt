-- Sources that serve a demand.
use Rattle.std.proofs.Common.{◌≡◌, ◌<◌, ℕ, Bool, List, length, nat_eq, nat_lt, sym, ◌∙◌, ap, subst}
use Rattle.std.specs.Set.{is_member}
use Rattle.std.proofs.lemmas.Bool.{lt-ltb}
use Rattle.std.proofs.lemmas.Map.Views.{list_any-from_Contains}
use Rattle.std.specs.Cmp.{nat_eq_equiv}
use Rattle.p1_normal.specs.Points.{symbols}
use Rattle.quotient_coords.specs.Quotient.{Ground}
use Rattle.heilbronn_sets.specs.Sets.{Matrices}
use Rattle.session_core.specs.declared.demand.Demand.TheVariants as demands
use Rattle.session_core.specs.Demands.{ServesDemand}
use Rattle.session_core.specs.ColumnTable.{merel}

-- a source of the symbols of a demand serves it
pub list_serves : (setting g : Ground) (matrices : Matrices) (gives : ℕ → Bool) (n : ℕ) (given : List ℕ) → setting ≡ g → matrices ≡ merel n
    → ((k : ℕ) → gives k ≡ is_member nat_eq given k) → ServesDemand setting matrices gives g (demands.Some n given)
list_serves setting g matrices gives n given ground set gives_is = (
  record { of_ground = ground; determinant = ap (λ (s : Matrices). s.det) set; list = ap (λ (s : Matrices). s.list) set },
  λ k has. gives_is k ∙ list_any-from_Contains nat_eq_equiv k given has,
)

-- a source of all symbols serves a demand of all
pub below_serves : (setting g : Ground) (matrices : Matrices) (gives : ℕ → Bool) (n : ℕ) → setting ≡ g → matrices ≡ merel n
    → ((k : ℕ) → gives k ≡ nat_lt k (length (symbols setting.level))) → ServesDemand setting matrices gives g (demands.All n)
below_serves setting g matrices gives n ground set gives_is = (
  record { of_ground = ground; determinant = ap (λ (s : Matrices). s.det) set; list = ap (λ (s : Matrices). s.list) set },
  λ k within. gives_is k ∙ lt-ltb k (length (symbols setting.level)) (subst (λ (s : Ground). k < length (symbols s.level)) (sym ground) within),
)
