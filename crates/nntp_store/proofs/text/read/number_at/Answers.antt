use Rattle.std.proofs.Common.{arith, ◌≡◌, ℕ, Bool, true, false, not, Ok, refl}
use Rattle.nntp_article.specs.{Article.Parts.{Line, Id}, Session.Spool.{Numbers}}
use Rattle.nntp_content.specs.{Ascending.{is_last}, Inner.Numbers.{with_number}, Numbers.{has_id}}
use Rattle.nntp_store.specs.{declared.text.read_fault.ReadError.{ReadError}, Inner.Reading.{Fails}, Reading.{Place, line_at, number_in, number_at}}
use Rattle.nntp_store.specs.declared.text.read_fault.ReadError.TheVariants as errors
use Rattle.nntp_store.specs.declared.text.read_fault.Kind.TheVariants as kinds
use Rattle.nntp_store.proofs.text.read.number_at.Goals as goal

module _ (limit : ℕ) (N : Numbers) (p : Place) (l : Line × Place) (e : ℕ × Id) (added : Bool) (line : line_at p ≡ Ok l) (number : number_in limit p.line l.0 ≡ Ok e)
    (last : true ≡ is_last N e.0) (put : added ≡ not (has_id N e.1)) where
  -- a number is read where its line is, and it is added
  all_read : (M : Numbers) → added ≡ true → M ≡ with_number N e.0 e.1 → number_at limit (N, p) ≡ Ok (M, l.1)
  unfolding number_at
  all_read M is_added is =
      let lacks : has_id N e.1 ≡ false = grind arith in
      rw (line, number, ← last, lacks, is, lacks) refl

  -- and it isn't where the group has its id
  again : (fault : ReadError) → added ≡ false → fault ≡ errors.Fault (record { line = p.line; kind = kinds.DuplicateId }) → Fails fault (number_at limit (N, p))
  unfolding number_at
  again fault none is =
      let has : has_id N e.1 ≡ true = grind arith in
      rw (is, line, number, ← last, has) refl

pub returns : goal.returns
returns g c =
    all_read c.args.limit _ _ _ _ _ c.in_ok-line.ensures c.in_ok-number.ensures c.if-not-is_after.ensures c.in_ok-insert.ensures.added _ c.if-not-branch.false c.in_ok-insert.ensures.ok

pub returns-then-not-branch : goal.returns-then-not-branch
returns-then-not-branch g c = again c.args.limit _ _ _ _ _ c.in_ok-line.ensures c.in_ok-number.ensures c.if-not-is_after.ensures c.in_ok-insert.ensures.added
    c.fault-then-not-branch.result c.if-not-branch.true c.fault-then-not-branch.ensures
