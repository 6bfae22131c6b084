use Rattle.p1_normal.proofs.Residues.{part_value}
use Rattle.p1_normal.proofs.image.part.Goals as goal

pub returns-clause-residue : goal.returns-clause-residue
returns-clause-residue c = part_value c.args.n c.args.u c.args.v c.args.x c.args.y c.times.result c.times-2.result c.rem_euclid.result
    c.requires.level.0 c.requires.level.1
    c.requires.entries.0 c.requires.entries.1 c.times.ensures.bound c.times-2.ensures.bound c.times.ensures.product c.times-2.ensures.product
    c.rem_euclid.ensures.value
