use Rattle.std.proofs.{Common.{arith, ◌≡◌, ◌∙◌, ◌++◌, ℕ, List, Option, sym, ap}, lemmas.Bool.{false≢true}}
use Rattle.nntp_wire.{specs.{Octets.{crlf}, Lines.{HasNoCrlf}, Answer.{code_of}, Frame.{is_due_by}}, proofs.FrameLemmas.{one_line, no_line_first}}
use Rattle.nntp_wire.proofs.framing.FrameSearch.go_on.Goals as goal

-- what is read of the line that the search split off is read of each first line
read-there : (s line rest other behind : List ℕ) (code : Option ℕ) → HasNoCrlf line × (s ≡ (line ++ crlf) ++ rest) → code ≡ code_of line
    → HasNoCrlf other → s ≡ (other ++ crlf) ++ behind → code ≡ code_of other
read-there s line rest other behind code parts reads is_line whole = grind (arith, one_line)

pub returns-in_default-clause-through : goal.returns-in_default-clause-through
returns-in_default-clause-through c = record {
  line = c.go_on.ensures.through;
  code = λ line rest is_line whole. absurd (no_line_first c.args.stream.now line rest c.in_default.ensures.parts whole);
  block = λ asked line rest same is_line whole due. absurd (no_line_first c.args.stream.now line rest c.in_default.ensures.parts whole);
}

pub returns-then-is_due-clause-through : goal.returns-then-is_due-clause-through
returns-then-is_due-clause-through c = record {
  line = c.go_on.ensures.through;
  code = λ line rest is_line whole. read-there c.args.stream.now c.in-Some.line.now c.in-Some.field-0-1.now line rest c.code-self.result c.in-Some.ensures.parts c.code-self.ensures is_line whole;
  block = λ asked line rest same is_line whole due. c.go_on-then-is_due.ensures.through;
}

pub returns-else-is_due-clause-through : goal.returns-else-is_due-clause-through
returns-else-is_due-clause-through c = record {
  line = c.go_on.ensures.through;
  code = λ line rest is_line whole. read-there c.args.stream.now c.in-Some.line.now c.in-Some.field-0-1.now line rest c.code-self.result c.in-Some.ensures.parts c.code-self.ensures is_line whole;
  block = λ asked line rest same is_line whole due.
      let reads = read-there c.args.stream.now c.in-Some.line.now c.in-Some.field-0-1.now line rest c.code-self.result c.in-Some.ensures.parts c.code-self.ensures is_line whole in
      absurd (false≢true (sym c.if-is_due.false ∙ c.is_due.ensures asked same ∙ ap (is_due_by asked) reads ∙ due));
}
