-- What the type of a version state keeps, as entries are added.
use Rattle.std.proofs.Common.{◌≡◌, ◌<◌, ◌≤◌, ℕ, List, [], ◌∷◌, ◌++◌, length, length-append, take, sym, ap, subst, arith}
use Rattle.std.proofs.lemmas.List.{take_all}
use Rattle.field_table.specs.Table.{IsListed}
use Rattle.op_polynomials.specs.declared.entry.SplitEntry.{SplitEntry}
use Rattle.quotient_coords.specs.Quotient.{Ground, dimension}
use Rattle.reply_text.specs.declared.limits.TheConstants.{MAX_VERSIONS}
use Rattle.split_state.specs.Decomposition.{Decomposition, IsSplitting}
use Rattle.split_state.specs.Step.{IsWhole}
use Rattle.split_state.specs.Versions.{IsVersion}
use Rattle.split_state.proofs.Versions.{version_whole}
use Rattle.split_state.proofs.VersionSplittings.{first_splitting}
use Rattle.split_versions.specs.Histories.{AreVersions, IsHistory, VersionHistory}
use Rattle.split_versions.proofs.Prefixes.{versions_none, versions_more}

-- no entry, and the whole space
pub history_none : (g : Ground) (p d capacity : ℕ) (items : List SplitEntry) (s whole : Decomposition) → IsListed g.characteristic
    → p ≡ g.characteristic → d ≡ dimension g.level g.characteristic → IsWhole p d whole → s ≡ whole → items ≡ [] → MAX_VERSIONS ≤ capacity
    → IsHistory g.level g.characteristic items capacity s
history_none g p d capacity items s whole listed field dim is_whole same none room = record {
  few = omega (arith, ap (λ xs. length xs) none);
  room = room;
  newest_is = subst (λ xs. IsVersion g xs s) (sym none) version;
  versions = subst (AreVersions g) (sym none) (versions_none g s version (first_splitting g listed s version));
}
  where
    version : IsVersion g [] s
    version = version_whole g s (subst (IsWhole g.characteristic (dimension g.level g.characteristic)) (sym same)
        (subst (λ n. IsWhole g.characteristic n whole) dim (subst (λ n. IsWhole n d whole) field is_whole)))

-- an entry more, tested at the version of all entries
pub history_more : (N p : ℕ) (old : VersionHistory) (entries items : List SplitEntry) (e : SplitEntry) (capacity room seen : ℕ)
    (s next : Decomposition)
    → IsHistory N p entries capacity s → old ≡ record { entries = entries; setting = record { level = N; characteristic = p } }
    → length entries ≤ seen → length entries < MAX_VERSIONS → items ≡ entries ++ e ∷ [] → capacity ≤ room
    → IsVersion old.setting (take seen old.entries ++ e ∷ []) next → IsSplitting next → IsHistory N p items room next
history_more N p old entries items e capacity room seen s next h same all below pushed grows version splits = record {
  few = omega (arith, ap (λ xs. length xs) pushed, length-append entries (e ∷ []), below);
  room = omega (arith, grows, h.room);
  newest_is = subst (λ xs. IsVersion g xs next) (sym pushed) now;
  versions = subst (AreVersions g) (sym pushed) (versions_more g entries e next h.versions now splits);
}
  where
    g : Ground
    g = record { level = N; characteristic = p }

    now : IsVersion g (entries ++ e ∷ []) next
    now = subst (λ xs. IsVersion g (xs ++ e ∷ []) next) (take_all seen entries all)
        (subst (λ (o : VersionHistory). IsVersion o.setting (take seen o.entries ++ e ∷ []) next) same version)
