use Rattle.std.proofs.Common.{sym, ◌∙◌, ap, arith}
use Rattle.quotient_coords.specs.Quotient.{dimension}
use Rattle.split_versions.proofs.HistoryLemmas.{history_none}
use Rattle.split_versions.proofs.state.VersionState.new.Goals as goal

pub invariant_of-result : goal.invariant_of-result
invariant_of-result c =
    history_none (record { level = c.modulus.result; characteristic = c.characteristic.result }) c.field.result c.dim.result _ _ _ c.in_ok-whole.field-0
    c.characteristic.ensures.listed (c.field.ensures ∙ sym (c.characteristic.ensures.value ∙ c.field-2.ensures))
    (c.dim.ensures.dimension ∙ (λ i. dimension (sym (c.modulus.ensures.modulus ∙ ap (λ l. l) c.level.ensures) i) (sym (c.characteristic.ensures.value ∙ c.field-2.ensures) i)))
    c.in_ok-whole.ensures c.in_ok-newest.ensures.ok c.in_ok-entries.ensures.items (omega (arith, c.in_ok-entries.ensures.capacity))
