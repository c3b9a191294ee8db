use Rattle.nntp_store.proofs.value.spool.Spool.counts.Goals as goal

pub returns-clause-is_written : goal.returns-clause-is_written
returns-clause-is_written g c = rw (← c.self.view_is) (record { is_spool = c.self.invariant; line_counts = c.count_articles.ensures.line_counts })
