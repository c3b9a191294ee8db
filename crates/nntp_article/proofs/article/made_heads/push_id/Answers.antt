use Rattle.std.proofs.{Common.{◌∙◌, ◌++◌, ◌∷◌, [], ap}, lemmas.Result.{IfOk-equal}}
use Rattle.nntp_wire.specs.Octets.{is_clean}
use Rattle.nntp_article.proofs.ArticleLemmas.MadeHeadLemmas.{id_line_put, id_line_clean}
use Rattle.nntp_article.proofs.article.made_heads.push_id.Goals as goal

pub push-requires : goal.push-requires
push-requires g c =
    let line = id_line_put c.in_ok-line.ensures.items c.in_ok-extend_from_slice.ensures.items c.in_ok-extend_from_slice-2.ensures.items c.as_slice.ensures.value in
    ap is_clean (c.deref.ensures.value ∙ line) ∙ id_line_clean c.args.id.now c.as_slice.ensures.is_id

pub returns : goal.returns
returns g c =
    let line = id_line_put c.in_ok-line.ensures.items c.in_ok-extend_from_slice.ensures.items c.in_ok-extend_from_slice-2.ensures.items c.as_slice.ensures.value in
    IfOk-equal c.push.result _ _ _ c.push.ensures.ok (ap (λ l. c.args.head.now ++ l ∷ []) (c.deref.ensures.value ∙ line))
