use Rattle.std.proofs.Common.{◌≡◌, ℕ, List, Ok, length, refl}
use Rattle.nntp_wire.specs.{Limit.{greatest}, declared.limit.Limit.{Limit}}
use Rattle.nntp_article.specs.Session.Spool.{Spool}
use Rattle.nntp_store.specs.Reading.{Place, segments_of, limit_at, content_at, spool_at}
use Rattle.nntp_store.proofs.text.read.parts_of_text.Goals as goal

-- a text is read where its limit and its content are
all_read : (bytes : List ℕ) (limit : Limit) (value : ℕ) (place : Place) (S : Spool) → limit_at (record { line = 1; segments = segments_of bytes }) ≡ Ok (limit, place) → value ≡ greatest limit
    → content_at value (length bytes) place ≡ Ok S → spool_at bytes ≡ Ok (record { limit = limit; spool = S })
unfolding spool_at
all_read bytes limit value place S first is content = rw (first, ← is, content) refl

pub returns : goal.returns
returns g c = all_read c.args.octets.now c.in_ok-limit.limit c.value.result _ _ c.in_ok-limit.ensures c.value.ensures c.in_ok-content.ensures
