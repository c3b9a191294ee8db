use Rattle.std.{proofs.Common.{Some, sym, ap, ◌∙◌}, specs.Prelude.{option_copied}}
use Rattle.nntp_content.proofs.ShownMaps.{group_got}
use Rattle.nntp_content.proofs.content.Content.group.Goals as goal

pub returns-in-Some : goal.returns-in-Some
returns-in-Some g c =
    ap Some c.or.ensures ∙ ap option_copied (sym c.in-Some.is) ∙ c.get.ensures.value ∙ group_got _ _ c.args.name.now (ap (λ s. s.groups) c.self.view_is)

pub returns-in-None : goal.returns-in-None
returns-in-None g c = ap option_copied (sym c.in-None.is) ∙ c.get.ensures.value ∙ group_got _ _ c.args.name.now (ap (λ s. s.groups) c.self.view_is)
