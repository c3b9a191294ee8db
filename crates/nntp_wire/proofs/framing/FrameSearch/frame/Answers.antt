use Rattle.std.proofs.Common.{◌≡◌, ◌∙◌, ◌+◌, ◌-◌, ℕ, Bool, Option, ap, List, ◌++◌, length, take, refl, sym, subst, arith, length-append, true}
use Rattle.std.proofs.lemmas.Grind.{common_steps}
use Rattle.nntp_wire.specs.{Octets.{crlf}, Lines.{HasNoCrlf}, Inner.{Block.{end_of_block}, Search.{IsSearched, IsThrough}}, Answer.{Asked, code_of}}
use Rattle.nntp_wire.{specs.{Frame.{is_due_by}, declared.search.Search.{Search, TheVariants.{Found}}}, proofs.FrameLemmas.{no_line_no_frame, undue_frame}}
use Rattle.nntp_wire.proofs.FrameLemmas.{due_frame, no_block_no_frame, block_found, IsBlockAt}
use Rattle.nntp_wire.proofs.framing.FrameSearch.frame.Goals as goal

-- what the search for the block's end found
block_at : (s line rest : List ℕ) (search : Search) (end : ℕ) → HasNoCrlf line × (s ≡ (line ++ crlf) ++ rest) → IsSearched end_of_block s search → search ≡ Found end → IsBlockAt line rest end
block_at s line rest search end parts searched is = block_found s line rest end parts.0 parts.1 (subst (IsSearched end_of_block s) is searched)

-- where the code that is held is the line's, a block is due by either
due-by : (asked : Asked) (line : List ℕ) (code : Option ℕ) (is_due : Bool) → is_due ≡ is_due_by asked code → code ≡ code_of line → is_due_by asked (code_of line) ≡ is_due
due-by asked line code is_due is reads = sym (is ∙ ap (is_due_by asked) reads)

pub returns-in_err-line-clause-none : goal.returns-in_err-line-clause-none
returns-in_err-line-clause-none c =
    rw c.from_residual.ensures (λ asked line block rest same. no_line_no_frame asked c.args.stream.now line block rest c.in_err-line.ensures.parts)

pub returns-then-not-is_due-clause-found : goal.returns-then-not-is_due-clause-found
returns-then-not-is_due-clause-found c =
    let line = c.in_ok-line.line.now in
    let parts = c.in_ok-line.ensures.parts in
    let reads = c.requires.through.code line c.in_ok-line.rest.now parts.0 parts.1 in
    λ asked same. rw c.new.ensures
    (undue_frame asked c.args.stream.now line c.in_ok-line.rest.now _ parts.0 parts.1
    (due-by asked line c.args.self.now.code c.is_due.result (c.is_due.ensures asked same) reads ∙ c.if-not-is_due.true) refl)

pub returns-in_default-clause-none : goal.returns-in_default-clause-none
returns-in_default-clause-none c =
    let s = c.args.stream.now in
    let line = c.in_ok-line.line.now in
    let rest = c.in_ok-line.rest.now in
    let parts = c.in_ok-line.ensures.parts in
    let reads = c.requires.through.code line rest parts.0 parts.1 in
    λ asked l block r same.
    let due : is_due_by asked (code_of line) ≡ true = due-by asked line c.args.self.now.code c.is_due.result (c.is_due.ensures asked same) reads ∙ c.if-not-is_due.false in
    no_block_no_frame asked s line rest parts.0 parts.1 due (subst (IsThrough end_of_block s) c.in_default.is (c.requires.through.block asked line rest same parts.0 parts.1 due)) l block r

pub overflow_sub-end : goal.overflow_sub-end
overflow_sub-end c =
    let at = block_at c.args.stream.now c.in_ok-line.line.now c.in_ok-line.rest.now c.args.self.now.block_end c.in-Found.end c.in_ok-line.ensures.parts c.requires.searched.block c.in-Found.is in
    grind arith

pub new-requires-2-clause-frame : goal.new-requires-2-clause-frame
new-requires-2-clause-frame c =
    let line = c.in_ok-line.line.now in
    let sent = take (c.in-Found.end - length line) c.in_ok-line.rest.now in
    let at = block_at c.args.stream.now line c.in_ok-line.rest.now c.args.self.now.block_end c.in-Found.end c.in_ok-line.ensures.parts c.requires.searched.block c.in-Found.is in
    grind (arith, length-append)

pub returns-clause-found : goal.returns-clause-found
returns-clause-found c =
    let line = c.in_ok-line.line.now in
    let rest = c.in_ok-line.rest.now in
    let parts = c.in_ok-line.ensures.parts in
    let sent = take (c.in-Found.end - length line) rest in
    let at = block_at c.args.stream.now line rest c.args.self.now.block_end c.in-Found.end parts c.requires.searched.block c.in-Found.is in
    let size = at.size in
    let len : c.in-Found.end + 5 ≡ length line + length sent + 5 = omega arith in
    let reads = c.requires.through.code line rest parts.0 parts.1 in
    λ asked same.
    rw (c.new-2.ensures, c.split_at.ensures.front)
    (due_frame asked c.args.stream.now line rest sent at.more (c.in-Found.end + 5) parts.0 parts.1
    (due-by asked line c.args.self.now.code c.is_due.result (c.is_due.ensures asked same) reads ∙ c.if-not-is_due.false) at.before_dot_line at.parts len)

pub new-requires-clause-frame : goal.new-requires-clause-frame
new-requires-clause-frame c = grind (arith, common_steps)

pub split_at-requires : goal.split_at-requires
split_at-requires c = grind (arith, common_steps)
