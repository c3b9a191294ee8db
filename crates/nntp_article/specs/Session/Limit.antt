-- What sessions are judged by.
use Rattle.nntp_wire.specs.{Limit.{greatest}, declared.{limit.Limit.{Limit}, marks.Marks.{Marks}}}
use Rattle.nntp_article.specs.declared.session.profile.Profile.{Profile}

-- article numbers within the limit, and marks that are read so
abbrev pub profile_of : Limit → Marks → Profile
profile_of limit marks = record { limit = greatest limit; marks = marks }
