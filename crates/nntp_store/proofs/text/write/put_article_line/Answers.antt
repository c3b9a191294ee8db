use Rattle.std.{proofs.Common.{◌≡◌, ℕ, List, [], ◌∷◌, ◌++◌, append_assoc, subst, ◌∙◌}, specs.{Fmt.{decimal}, Prelude.{codes}}}
use Rattle.nntp_store.specs.{Inner.Buffering.{Puts}, Text.{with_line_ends, article_line}}
use Rattle.nntp_store.proofs.text.write.put_article_line.Goals as goal

-- the pieces that are put are the line
pieces : (id heads bodies : List ℕ) (h b : ℕ) → heads ≡ decimal h → bodies ≡ decimal b
    → codes "article " ++ (id ++ (32 ∷ (heads ++ (32 ∷ (bodies ++ 10 ∷ []))))) ≡ with_line_ends (article_line id h b ∷ [])
pieces id heads bodies h b first second = rw (first, second) (simp append_assoc)

pub returns : goal.returns
returns g c = subst (λ (t : List ℕ). Puts g.W.Write.contents c.put_pieces.result c.args.output.now c.put_pieces.new.self t)
    (pieces c.args.id.now _ _ _ _ (c.as_bytes-heads.ensures.value ∙ c.format.ensures.text) (c.as_bytes-bodies.ensures.value ∙ c.format-2.ensures.text)) c.put_pieces.ensures
