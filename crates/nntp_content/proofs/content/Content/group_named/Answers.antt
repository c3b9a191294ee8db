use Rattle.std.{proofs.Common.{Some, sym, ap, ◌∙◌}, specs.Prelude.{option_copied}}
use Rattle.nntp_content.proofs.ShownMaps.{no_name, group_got}
use Rattle.nntp_content.proofs.content.Content.group_named.Goals as goal

pub returns-in-Some-clause-numbers : goal.returns-in-Some-clause-numbers
returns-in-Some-clause-numbers g c = rw (← c.in-Ok.ensures.cases.0) (
    ap Some c.or.ensures ∙ ap option_copied (sym c.in-Some.is) ∙ c.get.ensures.value ∙ group_got _ _ c.in-Ok.name.now (ap (λ s. s.groups) c.self.view_is))

pub returns-in-None-clause-numbers : goal.returns-in-None-clause-numbers
returns-in-None-clause-numbers g c = rw (← c.in-Ok.ensures.cases.0) (
    ap option_copied (sym c.in-None.is) ∙ c.get.ensures.value ∙ group_got _ _ c.in-Ok.name.now (ap (λ s. s.groups) c.self.view_is))

pub returns-in-Err-clause-numbers : goal.returns-in-Err-clause-numbers
returns-in-Err-clause-numbers g c = sym (no_name c.args.word.now c.in-Err.ensures.cases.0 _) ∙ group_got _ _ c.args.word.now (ap (λ s. s.groups) c.self.view_is)
