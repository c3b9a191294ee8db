use Rattle.nntp_content.proofs.content.Content.count_articles.Goals as goal

pub returns-clause-line_counts : goal.returns-clause-line_counts
returns-clause-line_counts g c = rw (← c.self.view_is) c.self.invariant.0
