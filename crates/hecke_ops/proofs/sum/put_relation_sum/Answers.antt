use Rattle.std.proofs.Common.{◌≡◌, ◌-◌, [], get_or, length, arith}
use Rattle.hecke_ops.proofs.RelationSums.{column_at, height_at, sum_of_pair, sum_of_triple}
use Rattle.hecke_ops.proofs.sum.put_relation_sum.Goals as goal

pub returns-then-k-m : goal.returns-then-k-m
returns-then-k-m c =
    let xs = c.as_slice.result.now in
    let ys = c.as_slice-then-k-m.result.now in
    let first : xs ≡ get_or c.args.columns.now c.args.k [] =
    column_at c.args.columns.now c.args.k xs c.index-columns-k.result c.as_slice.ensures c.index-columns-k.is (omega arith) in
    let second : ys ≡ get_or c.args.columns.now c.s_of-s.result [] =
    column_at c.args.columns.now c.s_of-s.result ys c.index-columns-s.result c.as_slice-then-k-m.ensures c.index-columns-s.is (omega arith) in
    let height : length xs ≡ length c.args.sum.now =
    height_at c.args.field (length c.args.sum.now) c.args.columns.now c.args.k xs c.index-columns-k.result c.requires.rows
    c.as_slice.ensures c.index-columns-k.is (omega arith) in
    sum_of_pair c.args.field c.args.level.now c.args.columns.now c.args.k c.s_of-s.result xs ys c.put_sum.new.sum
    c.requires.positive (omega (arith, c.count-m.ensures.count)) c.s_of-s.ensures.number first second (omega (arith, height))
    c.put_sum.ensures.residues c.put_sum.ensures.sum

pub returns-else-k-m : goal.returns-else-k-m
returns-else-k-m c =
    let xs = c.as_slice-else-k-m.result.now in
    let ys = c.as_slice-else-k-m-2.result.now in
    let ws = c.as_slice-else-k-m-3.result.now in
    let j = c.args.k - c.count-m.result in
    let first : xs ≡ get_or c.args.columns.now j [] =
    column_at c.args.columns.now j xs c.index-columns-k-else-k-m.result c.as_slice-else-k-m.ensures c.index-columns-k-else-k-m.is
    (omega arith) in
    let second : ys ≡ get_or c.args.columns.now c.t_of-t.result [] =
    column_at c.args.columns.now c.t_of-t.result ys c.index-columns-t.result c.as_slice-else-k-m-2.ensures c.index-columns-t.is
    (omega arith) in
    let third : ws ≡ get_or c.args.columns.now c.t_of-last.result [] =
    column_at c.args.columns.now c.t_of-last.result ws c.index-columns-last.result c.as_slice-else-k-m-3.ensures c.index-columns-last.is
    (omega arith) in
    let height : length xs ≡ length c.args.sum.now =
    height_at c.args.field (length c.args.sum.now) c.args.columns.now j xs c.index-columns-k-else-k-m.result c.requires.rows
    c.as_slice-else-k-m.ensures c.index-columns-k-else-k-m.is (omega arith) in
    sum_of_triple c.args.field c.args.level.now c.args.columns.now c.args.k j c.t_of-t.result c.t_of-last.result xs ys ws
    c.put_sum-else-k-m.new.sum c.add.new.sum c.requires.positive (omega (arith, c.count-m.ensures.count)) c.requires.place
    (omega (arith, c.count-m.ensures.count)) c.t_of-t.ensures.number c.t_of-last.ensures.number first second third (omega (arith, height))
    c.put_sum-else-k-m.ensures.residues c.put_sum-else-k-m.ensures.sum (omega arith) c.add.ensures.residues c.add.ensures.sum
