use Rattle.office_core.proofs.worked_rows.WorkedTexts as row
use Rattle.office_core.proofs.worked.worked_texts.Goals as goal

pub returns-clause-each_reply : goal.returns-clause-each_reply
returns-clause-each_reply c = row.each_reply

pub returns-clause-each_refusal : goal.returns-clause-each_refusal
returns-clause-each_refusal c = row.each_refusal
