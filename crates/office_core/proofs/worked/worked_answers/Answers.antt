use Rattle.office_core.proofs.worked_rows.WorkedAnswers as row
use Rattle.office_core.proofs.worked.worked_answers.Goals as goal

pub returns-clause-aids : goal.returns-clause-aids
returns-clause-aids c = row.aids

pub returns-clause-pages : goal.returns-clause-pages
returns-clause-pages c = row.pages

pub returns-clause-at_the_desk : goal.returns-clause-at_the_desk
returns-clause-at_the_desk c = row.at_the_desk

pub returns-clause-replies : goal.returns-clause-replies
returns-clause-replies c = row.replies

pub returns-clause-statuses : goal.returns-clause-statuses
returns-clause-statuses c = row.statuses
