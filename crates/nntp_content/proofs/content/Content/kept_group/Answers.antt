use Rattle.std.{proofs.Common.{Some, sym, ap, ◌∙◌}, specs.{Prelude.{option_map}, String.{string_bytes}}}
use Rattle.nntp_content.proofs.ShownMaps.{no_name, group_got, octet_keys}
use Rattle.nntp_content.proofs.content.Content.kept_group.Goals as goal

pub returns-in-Some-clause-numbers : goal.returns-in-Some-clause-numbers
returns-in-Some-clause-numbers g c = rw (← c.in-Ok.ensures.cases.0) (
    ap Some c.or.ensures ∙ ap (option_map (λ p. p.1.now)) (sym c.in-Some.is) ∙ c.get_key_value.ensures.value ∙ group_got _ _ c.in-Ok.name.now (ap (λ s. s.groups) c.self.view_is))

pub returns-in-Some-clause-name : goal.returns-in-Some-clause-name
returns-in-Some-clause-name g c =
    c.as_str.ensures.value ∙ sym (octet_keys c.in-Ok.name.now (string_bytes c.in-Some.kept.now) c.in-Some.ensures.same_key) ∙ c.in-Ok.ensures.cases.0

pub returns-in-None-clause-numbers : goal.returns-in-None-clause-numbers
returns-in-None-clause-numbers g c = rw (← c.in-Ok.ensures.cases.0) (
    ap (option_map (λ p. p.1.now)) (sym c.in-None.is) ∙ c.get_key_value.ensures.value ∙ group_got _ _ c.in-Ok.name.now (ap (λ s. s.groups) c.self.view_is))

pub returns-in-Err-clause-numbers : goal.returns-in-Err-clause-numbers
returns-in-Err-clause-numbers g c = sym (no_name c.args.word.now c.in-Err.ensures.cases.0 _) ∙ group_got _ _ c.args.word.now (ap (λ s. s.groups) c.self.view_is)
