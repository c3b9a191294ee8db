use Rattle.std.{proofs.{Common.{◌∙◌, ap, rules}, lemmas.Bool.{false_from_ne_true}}, specs.List.{flat_map}}
use Rattle.nntp_wire.specs.Words.{words_of}
use Rattle.nntp_article.{specs.Inner.{SaidId.{id_with, ids_behind}, Parts.{more}}, proofs.ArticleLemmas.SaidLemmas.{begun-other, begun-first, begun-again}}
use Rattle.nntp_article.proofs.article.said_id.SaidId.begin.Goals.{in-NoHeader, in_default-found}
use Rattle.nntp_article.proofs.article.said_id.SaidId.begin.Goals as goal

pub returns-in_default : goal.returns-in_default
returns-in_default c = search (rules, begun-other, false_from_ne_true)

pub returns : goal.returns
returns c = λ lines. elim c.match-self.branch [
  | in-NoHeader w ↦ ap (λ f. id_with f (flat_map words_of (more lines)) (ids_behind lines)) w.found-is
      ∙ begun-first c.args.self.found w.with-found.result c.args.self.is_open c.args.line.now c.in-Some.value.now
      lines c.requires c.in-Some.ensures.0 w.in-NoHeader.is c.in-Some.ensures.1 w.with-found.ensures
  | in_default-found w ↦ ap (λ f. id_with f (flat_map words_of (more lines)) (ids_behind lines)) w.found-is
      ∙ begun-again c.args.self.found c.args.self.is_open c.args.line.now lines c.requires c.in-Some.ensures.0 w.in_default-found.not-NoHeader
]
