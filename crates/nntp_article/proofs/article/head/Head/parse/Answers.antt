use Rattle.std.{proofs.Common.{◌≡◌, ◌∷◌, sym, ◌∙◌, ap, refl}, specs.{Prelude.{◌&&◌}, List.{list_all}}}
use Rattle.nntp_article.{specs.Inner.{Parts.{is_head_line}, SaidId.{id_by}}, proofs.ArticleLemmas.HeadLemmas.{is_head-parts}}
use Rattle.nntp_article.proofs.article.head.Head.parse.Goals as goal

pub loop-line-init : goal.loop-line-init
loop-line-init c =
    let rest = c.next.new.self in
    let all : c.in_ok-first.first.now ∷ rest ≡ c.args.lines.now = sym c.in_ok-first.ensures.steps ∙ c.lines-rest.ensures.lines in
    record {
      is_head = ap (λ b. b && list_all is_head_line rest) (sym c.if-not-begins_header.false)
          ∙ is_head-parts _ _ _ rest _ _ c.in_ok-first.ensures.steps c.lines-rest.ensures.lines c.begins_header.ensures refl;
      said = c.note.ensures rest ∙ ap (id_by c.new-said.result) all ∙ c.new-said.ensures c.args.lines.now;
    }

pub loop-line-preserved : goal.loop-line-preserved
loop-line-preserved c =
    let rest = c.next-in-loop-line.new.self in
    let steps = sym c.in-Some.ensures.steps in
    record {
      is_head = ap (λ b. b && list_all is_head_line rest) (sym c.if-not-is_head_line.false ∙ c.is_head_line.ensures)
          ∙ ap (list_all is_head_line) steps ∙ c.loop-line.invariant.is_head;
      said = c.note-in-Some.ensures rest ∙ ap (id_by c.loop-line.said) steps ∙ c.loop-line.invariant.said;
    }
