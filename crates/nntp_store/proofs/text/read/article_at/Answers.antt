use Rattle.std.proofs.Common.{◌≡◌, ℕ, true, false, List, Ok, refl}
use Rattle.nntp_article.specs.{Article.Parts.{Line, Id}, Session.Spool.{Spool}}
use Rattle.nntp_wire.specs.Decided.{is_message_id}
use Rattle.nntp_content.specs.{Ascending.{is_last}, Content.{with_article, is_head_of}}
use Rattle.nntp_store.specs.{declared.text.read_fault.ReadError.{ReadError}, Inner.{Reading.{Fails}, ReadingView.{turn_of}}, Reading.{Place, On}}
use Rattle.nntp_store.specs.Reading.{barred_lines_at, article_at}
use Rattle.nntp_store.specs.declared.text.read_fault.ReadError.TheVariants as errors
use Rattle.nntp_store.specs.declared.text.read_fault.Kind.TheVariants as kinds
use Rattle.nntp_store.proofs.text.read.article_at.Goals as goal

module _ (line heads bodies : ℕ) (id said : Id) (S : Spool) (p : Place) (head body : List Line × Place) (right : is_message_id id ≡ true) (same : said ≡ id)
    (last : true ≡ is_last S.articles said) (first : barred_lines_at heads p ≡ Ok head) (second : barred_lines_at bodies head.1 ≡ Ok body) where
  -- an article is read where its parts are
  all_read : (T : Spool) → true ≡ is_head_of said head.0 → T ≡ with_article S said (record { head = head.0; body = body.0 })
      → turn_of true (article_at line id heads bodies S p) ≡ Ok (On true T body.1)
  unfolding article_at
  all_read T begins is = rw (right, ← same, ← last, first, second, ← begins, is) refl

  -- and it isn't where its head is another one's
  other : (e : ReadError) → false ≡ is_head_of said head.0 → e ≡ errors.Fault (record { line = line; kind = kinds.Head }) → Fails e (turn_of true (article_at line id heads bodies S p))
  unfolding article_at
  other e begins is = rw (is, right, ← same, ← last, first, second, ← begins) refl

pub returns : goal.returns
returns g c = all_read c.args.line c.args.heads c.args.bodies c.args.id.now _ _ _ _ _ c.in-Some.ensures.0 c.in-Some.ensures.1 c.if-not-is_after_articles.ensures
    c.in_ok-next.ensures c.in_ok-next-2.ensures _ c.if-not-is_block_head_of.ensures c.in_ok-add_article.ensures

pub returns-then-not-is_block_head_of : goal.returns-then-not-is_block_head_of
returns-then-not-is_block_head_of g c = other c.args.line c.args.heads c.args.bodies c.args.id.now _ _ _ _ _ c.in-Some.ensures.0 c.in-Some.ensures.1 c.if-not-is_after_articles.ensures
    c.in_ok-next.ensures c.in_ok-next-2.ensures _ c.if-not-is_block_head_of.ensures c.fault-then-not-is_block_head_of.ensures
