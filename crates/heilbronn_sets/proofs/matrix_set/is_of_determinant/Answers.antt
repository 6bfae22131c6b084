use Rattle.std.proofs.Common.{◌≡◌, rules, FitsSigned, w32, w64}
use Rattle.std.specs.Prelude.{◌+ℤ◌, ◌*ℤ◌}
use Rattle.std.proofs.lemmas.Int.{to_z-of_z}
use Rattle.heilbronn_sets.proofs.Faults.{determinant_test}
use Rattle.heilbronn_sets.proofs.matrix_set.is_of_determinant.Goals as goal

pub returns : goal.returns
returns c =
    let m = c.args.matrix.now in
    let fits_a : FitsSigned w32 m.a = search rules in
    let fits_b : FitsSigned w32 m.b = search rules in
    let fits_c : FitsSigned w32 m.c = search rules in
    let fits_d : FitsSigned w32 m.d = search rules in
    let first : c.times.result ≡ m.a *ℤ m.d = simp to_z-of_z at c.times.ensures.product in
    let second : c.times-2.result ≡ m.b *ℤ m.c = simp to_z-of_z at c.times-2.ensures.product in
    let fits_sum : FitsSigned w64 (c.from.result +ℤ c.times-2.result) = search rules in
    determinant_test c.args.det m c.times.result c.from.result c.times-2.result (search rules) (search rules) (search rules) fits_sum first
    c.from.ensures second
