use Rattle.std.proofs.Common.{◌≡◌, ◌-◌, ◌%◌, ◌<◌, ◌≤◌, ℕ, List, [], ◌∷◌, length, sym, ◌∙◌, ap, arith}
use Rattle.std.proofs.lemmas.Result.{IfOk-weaker}
use Rattle.p1_normal.specs.Points.{symbols}
use Rattle.p1_normal.specs.Actions.{image_number, matrix_s, matrix_t}
use Rattle.p1_normal.specs.Relations.{relation_symbols, t_triple}
use Rattle.manin_relations.specs.Relations.{IsSum, IsRelation}
use Rattle.manin_relations.proofs.Occurrences.{symbols_of_pair, symbols_of_triple}
use Rattle.manin_relations.proofs.RelationVectors.{ones, IsRelation-from_sum}
use Rattle.manin_relations.proofs.row.relation.Goals as goal

-- the symbols that the code finds are those of the relation
pair : (N k m s : ℕ) → m ≡ length (symbols N) → k < m → s ≡ image_number N k matrix_s → relation_symbols N k ≡ k ∷ s ∷ []
pair N k m s count below is = symbols_of_pair N k (omega arith) ∙ ap (λ i. k ∷ i ∷ []) (sym is)

triple : (N k m t u : ℕ) → m ≡ length (symbols N) → m ≤ k → t ≡ image_number N (k - m) matrix_t → u ≡ image_number N t matrix_t
    → relation_symbols N k ≡ (k - m) ∷ t ∷ u ∷ []
triple N k m t u count above first second =
    symbols_of_triple N k (omega arith) ∙ ap (λ i. t_triple N (k - i)) (sym count)
    ∙ ap (λ i. (k - m) ∷ i ∷ image_number N i matrix_t ∷ []) (sym first) ∙ ap (λ i. (k - m) ∷ t ∷ i ∷ []) (sym second)

pub returns-then-k-m : goal.returns-then-k-m
returns-then-k-m c =
    let N : ℕ = c.args.level.now in
    let ks : List ℕ = c.args.k ∷ c.s_of.result ∷ [] in
    IfOk-weaker c.sum_of.result (IsSum c.args.field (ones (1 % c.args.field) ks)) (IsRelation N c.args.field c.args.k)
    (λ x sum. IsRelation-from_sum N c.args.field c.args.k ks x c.requires.place
    (pair N c.args.k c.count-m.result c.s_of.result c.count-m.ensures.count c.if-k-m.true c.s_of.ensures.number) sum)
    c.sum_of.ensures

pub returns-else-k-m : goal.returns-else-k-m
returns-else-k-m c =
    let N : ℕ = c.args.level.now in
    let ks : List ℕ = (c.args.k - c.count-m.result) ∷ c.t_of-t.result ∷ c.t_of.result ∷ [] in
    IfOk-weaker c.sum_of-else-k-m.result (IsSum c.args.field (ones (1 % c.args.field) ks)) (IsRelation N c.args.field c.args.k)
    (λ x sum. IsRelation-from_sum N c.args.field c.args.k ks x c.requires.place
    (triple N c.args.k c.count-m.result c.t_of-t.result c.t_of.result c.count-m.ensures.count c.if-k-m.false c.t_of-t.ensures.number
    c.t_of.ensures.number) sum)
    c.sum_of-else-k-m.ensures
