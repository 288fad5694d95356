use Rattle.http_desk.proofs.PublicAsks as law
use Rattle.http_desk.proofs.laws.sessions_show_only_published.Goals as goal

pub returns : goal.returns
returns c = law.sessions_show_only_published
