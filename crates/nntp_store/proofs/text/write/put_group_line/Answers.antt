use Rattle.std.{proofs.Common.{◌≡◌, ℕ, List, [], ◌∷◌, ◌++◌, append_assoc, subst, ◌∙◌}, specs.{Fmt.{decimal}, Prelude.{codes}}}
use Rattle.nntp_store.specs.{Inner.Buffering.{Puts}, Text.{with_line_ends, group_line}}
use Rattle.nntp_store.proofs.text.write.put_group_line.Goals as goal

-- the pieces that are put are the line
pieces : (name digits : List ℕ) (count : ℕ) → digits ≡ decimal count → codes "group " ++ (name ++ (32 ∷ (digits ++ 10 ∷ []))) ≡ with_line_ends (group_line name count ∷ [])
pieces name digits count is = rw is (simp append_assoc)

pub returns : goal.returns
returns g c = subst (λ (t : List ℕ). Puts g.W.Write.contents c.put_pieces.result c.args.output.now c.put_pieces.new.self t)
    (pieces c.args.name.now _ c.args.count (c.as_bytes-count.ensures.value ∙ c.format.ensures.text)) c.put_pieces.ensures
