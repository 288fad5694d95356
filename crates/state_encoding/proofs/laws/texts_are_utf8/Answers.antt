use Rattle.state_encoding.proofs.Common.{says_nothing, says_text}
use Rattle.state_encoding.proofs.laws.texts_are_utf8.Goals as goal

pub returns : goal.returns
returns c t = record { said = says_text t; nothing = says_nothing t }
