use Rattle.std.proofs.Common.{◌≡◌, ◌+◌, ◌≤◌, ◌<◌, All, length, take, vec_len, vec_capacity}
use Rattle.p1_normal.specs.Points.{symbols}
use Rattle.script_text.specs.declared.limits.TheConstants.{MAX_TERMS}
use Rattle.session_core.specs.Terms.{symbol_terms}
use Rattle.session_core.proofs.TermLemmas.{NameUpTo}
use Rattle.session_core.proofs.terms.term_numbers.Given as goal

abbrev pub invariant-loop-term : goal.invariant-loop-term
invariant-loop-term l = record {
  few : length l.terms ≤ MAX_TERMS;
  room : length l.terms ≤ vec_capacity l.numbers;
  count : vec_len l.numbers ≡ l.term-index;
  place : l.place ≡ l.term-index + 1;
  terms : l.numbers.items ≡ symbol_terms l.level (take l.term-index l.terms);
  below : All (λ t. t.0 < length (symbols l.level)) l.numbers.items;
  named : NameUpTo l.level l.terms l.term-index;
}
