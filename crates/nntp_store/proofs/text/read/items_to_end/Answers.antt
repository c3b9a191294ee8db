use Rattle.std.proofs.Common.{◌≡◌, refl, sym, ◌∙◌, ℕ, true, false, Ok}
use Rattle.nntp_article.specs.Session.Spool.{Spool}
use Rattle.nntp_content.specs.Content.{no_spool}
use Rattle.nntp_store.specs.{declared.text.read_fault.ReadError.{ReadError}, Inner.Reading.{Fails}, Reading.{Place, is_end, items_at, content_at}}
use Rattle.nntp_store.proofs.SplitLines.{ended}
use Rattle.nntp_store.specs.declared.text.read_fault.ReadError.TheVariants as errors
use Rattle.nntp_store.specs.declared.text.read_fault.Kind.TheVariants as kinds
use Rattle.nntp_store.proofs.text.read.items_to_end.Goals as goal

module _ (limit most : ℕ) (place end : Place) (S T : Spool) (none : S ≡ no_spool) (items : items_at limit most false S place ≡ Ok (T, end)) where
  -- the items are all where they end at the end of the text
  all-items : is_end end.segments ≡ true → content_at limit most place ≡ Ok T
  unfolding content_at
  all-items ends = rw (← none, items, ends) refl

  -- and none are where they end before it
  more : (e : ReadError) → is_end end.segments ≡ false → e ≡ errors.Fault (record { line = end.line; kind = kinds.Shape }) → Fails e (content_at limit most place)
  unfolding content_at
  more e goes_on is = rw (is, ← none, items, goes_on) refl

pub returns : goal.returns
returns g c = all-items c.args.limit c.args.most _ _ _ _ c.requires c.in_ok-content.ensures (sym (c.if-not-is_empty.ensures ∙ ended _))

pub returns-then-not-is_empty : goal.returns-then-not-is_empty
returns-then-not-is_empty g c = more c.args.limit c.args.most _ _ _ _ c.requires c.in_ok-content.ensures c.fault.result (sym (c.if-not-is_empty.ensures ∙ ended _)) c.fault.ensures
