-- The entries of tables, each with a property, and the columns that they hold.
use Rattle.std.proofs.Common.{◌≡◌, ℕ, Bool, true, false, cond, List, [], ◌∷◌, ◌++◌, All, Option, None, Some, IsSome, is_some, ◌||◌, refl, sym, ◌∙◌, ap, subst, rules}
use Rattle.std.specs.Map.{keys_of, lookup}
use Rattle.std.specs.Set.{is_member}
use Rattle.std.proofs.lemmas.Bool.{true≢false}
use Rattle.std.proofs.lemmas.List.Elements.{All-head, All-tail}
use Rattle.quotient_coords.specs.Quotient.{Ground}
use Rattle.heilbronn_sets.specs.Merel.{merel_matrices}
use Rattle.hecke_columns.specs.Hecke.{HeckeColumn, IsColumn}
use Rattle.hecke_columns.proofs.Columns.{IsColumn-same}
use Rattle.session_core.specs.Demands.{is_pair, Has, Adds}
use Rattle.session_core.specs.ColumnTable.{IsColumnAt, AreColumns}
use Rattle.session_core.proofs.PairLemmas.{is_pair-eq, Adds-push}

-- the value that a look-up finds has the property, at a key that passes
pub All-lookup : {K X : Type 0} (P : K × X → Type 0) (test : K → Bool) (es : List (K × X)) (v : X) → lookup test es ≡ Some v → All P es
    → (k : K) × (test k ≡ true) × P (k, v)
All-lookup P test [] v found all = absurd cc
All-lookup {K} {X} P test (e ∷ es) v found all = by (test e.0) refl found (λ same. All-lookup P test es v same (All-tail P e es all))
  where
    by : (t : Bool) → test e.0 ≡ t → cond t (Some e.1) (lookup test es) ≡ Some v
        → (lookup test es ≡ Some v → (k : K) × (test k ≡ true) × P (k, v)) → (k : K) × (test k ≡ true) × P (k, v)
    by true passes same later = (e.0, passes, subst (λ x. P (e.0, x)) (let inner : e.1 ≡ v = cc in inner) (All-head P e es all))
    by false fails same later = later same

-- a column that is found is that of its pair
pub column_found : (g : Ground) (n symbol : ℕ) (columns : List ((ℕ × ℕ) × HeckeColumn)) (column : HeckeColumn)
    → lookup (is_pair (n, symbol)) columns ≡ Some column → AreColumns g columns → IsColumnAt g n symbol column
column_found g n symbol columns column found all =
    let at = All-lookup (λ (e : (ℕ × ℕ) × HeckeColumn). IsColumnAt g e.0.0 e.0.1 e.1) (is_pair (n, symbol)) columns column found all in
    subst (λ (k : ℕ × ℕ). IsColumnAt g k.0 k.1 column) (sym (is_pair-eq (n, symbol) at.0 at.1)) at.2

-- the keys of one more entry
pub keys_of-push : {K X : Type 0} (es : List (K × X)) (k : K) (v : X) → keys_of (es ++ (k, v) ∷ []) ≡ keys_of es ++ k ∷ []
keys_of-push [] k v = refl
keys_of-push (e ∷ es) k v = ap (λ ks. e.0 ∷ ks) (keys_of-push es k v)

-- one more column adds its pair
pub Adds-entry : (k : ℕ × ℕ) (v : HeckeColumn) (old new : List ((ℕ × ℕ) × HeckeColumn)) → new ≡ old ++ (k, v) ∷ []
    → Adds (k ∷ []) (keys_of old) (keys_of new)
Adds-entry k v old new e = subst (λ ks. Adds (k ∷ []) (keys_of old) ks) (sym (ap keys_of e ∙ keys_of-push old k v)) (Adds-push k (keys_of old))

-- none is what is not some
pub none_is : {X : Type 0} (o : Option X) → is_some o ≡ false → o ≡ None
none_is None e = refl
none_is (Some x) e = absurd cc

-- a pair with a column is one of the pairs
pub Has-from_lookup : (k : ℕ × ℕ) (columns : List ((ℕ × ℕ) × HeckeColumn)) → IsSome (lookup (is_pair k) columns) → Has (keys_of columns) k
Has-from_lookup k [] some = absurd cc
Has-from_lookup k (e ∷ columns) some = by (is_pair k e.0) some (Has-from_lookup k columns)
  where
    by : (t : Bool) → IsSome (cond t (Some e.1) (lookup (is_pair k) columns)) → (IsSome (lookup (is_pair k) columns) → Has (keys_of columns) k)
        → (t || is_member is_pair (keys_of columns) k) ≡ true
    by true found later = refl
    by false found later = later found

-- a column at its pair is the column of its symbol
pub IsColumn-at : (g : Ground) (n symbol : ℕ) (column : HeckeColumn) → IsColumnAt g n symbol column
    → IsColumn g (merel_matrices n) symbol column.coords
IsColumn-at g n symbol column at =
    subst (λ k. IsColumn g (merel_matrices n) k column.coords) at.symbol_is
    (IsColumn-same at.modulus at.characteristic (ap merel_matrices at.n_is) column.symbol column.coords at.column_is)

-- one of the pairs has a column
pub lookup_from_Has : (k : ℕ × ℕ) (columns : List ((ℕ × ℕ) × HeckeColumn)) → Has (keys_of columns) k → IsSome (lookup (is_pair k) columns)
lookup_from_Has k [] has = absurd (true≢false (sym has))
lookup_from_Has k (e ∷ columns) has = by (is_pair k e.0) has (lookup_from_Has k columns)
  where
    by : (t : Bool) → (t || is_member is_pair (keys_of columns) k) ≡ true → (Has (keys_of columns) k → IsSome (lookup (is_pair k) columns))
        → IsSome (cond t (Some e.1) (lookup (is_pair k) columns))
    by true found later = search rules
    by false found later = later found
