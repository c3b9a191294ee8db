-- What a contract sees of a `Watched`.
use Rattle.nntp_store.specs.declared.watched.Watched.{Watched}

abbrev pub inner_of : {T : Type 0} → Watched T → T
inner_of w = w.inner
