use Rattle.std.proofs.Common.{rules, arith, ◌<◌, ℕ, length, get_or, refl, ◌∙◌}
use Rattle.std.proofs.lemmas.List.Elements.{All-get_or, All-set}
use Rattle.field_table.specs.Residues.{HasResidues}
use Rattle.field_table.specs.Terms.{HasPlacesBelow}
use Rattle.sparse_echelon.proofs.ClearedRows.{clearing_step, clearing_end, clearing_listed}
use Rattle.sparse_echelon.proofs.clearing.clear_rows.Goals as goal

pub loop-number-preserved : goal.loop-number-preserved
loop-number-preserved c =
    let above : 0 < c.args.field = search rules in
    let m : ℕ = get_or c.args.numbers.now c.loop-number.number-index 0 in
    let within : m < length c.args.rows.now = All-get_or (λ j. j < length c.args.rows.now) c.args.numbers.now c.loop-number.number-index 0
    c.loop-number-test.true c.requires.numbers in
    let h = c.loop-number.invariant in
    record {
      clearing = clearing_step c.args.field c.args.place above c.args.rows.now c.args.logs.now c.args.cleared.now c.args.cleared_log.now
          c.args.numbers.now c.loop-number.number-index c.loop-number.rows c.loop-number.logs
          c.loop-number.occurrences c.clear_row.new.occurrences c.requires.many c.requires.one h.clearing m refl within _ _ c.clear_row.new.row
          c.clear_row.new.log
          c.in_ok-clear_row.ensures.row c.in_ok-clear_row.ensures.log c.in_ok-clear_row.ensures.listed c.in_ok-clear_row.ensures.grows;
      rows = All-set (HasResidues c.args.field) c.loop-number.rows m c.clear_row.new.row c.in_ok-clear_row.ensures.row_residues h.rows;
      logs = All-set (HasResidues c.args.field) c.loop-number.logs m c.clear_row.new.log c.in_ok-clear_row.ensures.log_residues h.logs;
      row_places = λ n old places. let all = h.row_places n old places in
          All-set (HasPlacesBelow n) c.loop-number.rows m c.clear_row.new.row
          (c.in_ok-clear_row.ensures.row_places n (All-get_or (HasPlacesBelow n) c.loop-number.rows m _
          (omega (arith, h.clearing.many)) all) places) all;
      log_places = λ n old places. let all = h.log_places n old places in
          All-set (HasPlacesBelow n) c.loop-number.logs m c.clear_row.new.log
          (c.in_ok-clear_row.ensures.log_places n (All-get_or (HasPlacesBelow n) c.loop-number.logs m _
          (omega (arith, h.clearing.many_logs, c.requires.many)) all) places) all;
      grows = λ k j there. c.in_ok-clear_row.ensures.grows k j (h.grows k j there);
      below = λ all. c.in_ok-clear_row.ensures.below (length c.args.rows.now) within (h.below all);
      width = c.clear_row.auto.occurrences ∙ h.width;
    }

pub returns-clause-row : goal.returns-clause-row
returns-clause-row c j l =
    let above : 0 < c.args.field = search rules in
    (clearing_end c.args.field c.args.place above c.args.rows.now c.args.logs.now c.args.cleared.now c.args.cleared_log.now c.args.numbers.now
    c.loop-number.number-index c.loop-number.rows c.loop-number.logs
    c.loop-number.occurrences c.loop-number.invariant.clearing (omega arith) c.requires.found j l).row

pub returns-clause-log : goal.returns-clause-log
returns-clause-log c j l =
    let above : 0 < c.args.field = search rules in
    (clearing_end c.args.field c.args.place above c.args.rows.now c.args.logs.now c.args.cleared.now c.args.cleared_log.now c.args.numbers.now
    c.loop-number.number-index c.loop-number.rows c.loop-number.logs
    c.loop-number.occurrences c.loop-number.invariant.clearing (omega arith) c.requires.found j l).log

pub returns-clause-listed : goal.returns-clause-listed
returns-clause-listed c =
    clearing_listed c.args.field c.args.place c.args.rows.now c.args.logs.now c.args.cleared.now c.args.cleared_log.now c.args.numbers.now
    c.loop-number.number-index c.loop-number.rows c.loop-number.logs
    c.loop-number.occurrences c.loop-number.invariant.clearing
