use Rattle.std.{proofs.Common.{◌≡◌, drop}, specs.{Prelude.{◌||◌, bytes_eq}, List.{list_any}, Rc.{rc_str_bytes}}}
use Rattle.nntp_article.specs.Article.Parts.{Id}
use Rattle.nntp_content.proofs.numbers.ids_of.Given as goal

-- an id is known, or one of those that are left, if it is one of all
abbrev pub invariant-loop-numbered : goal.invariant-loop-numbered
invariant-loop-numbered g l = (id : Id) → (list_any (λ known. bytes_eq id (rc_str_bytes known)) l.known.keys || list_any (λ e. bytes_eq (rc_str_bytes e.1) id) (drop l.numbered-index l.ids))
    ≡ list_any (λ e. bytes_eq (rc_str_bytes e.1) id) l.ids
