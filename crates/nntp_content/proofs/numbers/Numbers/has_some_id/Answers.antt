use Rattle.std.proofs.{Common.{length, ap, sym, ◌∙◌}, lemmas.Bool.{true≢false}}
use Rattle.nntp_content.{specs.Numbers.{has_id}, proofs.NumberIds.{any_known, known_are}}
use Rattle.nntp_content.proofs.numbers.Numbers.has_some_id.Goals as goal

pub returns-else-is_empty : goal.returns-else-is_empty
returns-else-is_empty g c =
    let known = c.self.inside.known.keys in
    c.contains.ensures ∙ any_known c.args.id.now known ∙ known_are known _ c.self.invariant.1
    (λ none. true≢false (sym (c.is_empty.ensures.1 (ap length none)) ∙ c.if-is_empty.false)) c.args.id.now ∙ ap (λ N. has_id N c.args.id.now) c.self.view_is
