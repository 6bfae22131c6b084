use Rattle.std.proofs.Common.{◌∙◌, ap}
use Rattle.std.specs.Prelude.{pos, ◌+ℤ◌, ◌*ℤ◌}
use Rattle.std.specs.Int.{w32, cast_signed, cast_unsigned}
use Rattle.linear_algebra.specs.Integers.{residue_of}
use Rattle.p1_normal.specs.Actions.{image}
use Rattle.p1_normal.proofs.Places.{same_point}
use Rattle.p1_normal.proofs.Residues.{whole}
use Rattle.p1_normal.proofs.image.image_of.Goals as goal

pub returns-clause-image : goal.returns-clause-image
unfolding image
returns-clause-image c =
    let m = c.args.matrix.now in
    let p = c.args.p in
    let h = c.requires.entries in
    same_point _ _
    (c.part.ensures.residue ∙ ap (λ i. residue_of c.args.n (pos p.u *ℤ i +ℤ pos p.v *ℤ cast_signed w32 (cast_unsigned w32 m.c))) (whole m.a h.a)
    ∙ ap (λ i. residue_of c.args.n (pos p.u *ℤ m.a +ℤ pos p.v *ℤ i)) (whole m.c h.c))
    (c.part-2.ensures.residue ∙ ap (λ i. residue_of c.args.n (pos p.u *ℤ i +ℤ pos p.v *ℤ cast_signed w32 (cast_unsigned w32 m.d))) (whole m.b h.b)
    ∙ ap (λ i. residue_of c.args.n (pos p.u *ℤ m.b +ℤ pos p.v *ℤ i)) (whole m.d h.d))
