use Rattle.cert_text.proofs.LiveLines.{all_are_live, live_to_user, last_users_stand, good_lines_follow, good_lines_are_live}
use Rattle.cert_text.proofs.laws.live_lines.Goals as goal

pub returns-clause-all : goal.returns-clause-all
returns-clause-all c = all_are_live

pub returns-clause-good : goal.returns-clause-good
returns-clause-good c = good_lines_are_live

pub returns-clause-user : goal.returns-clause-user
returns-clause-user c = live_to_user

pub returns-clause-stand : goal.returns-clause-stand
returns-clause-stand c = last_users_stand

pub returns-clause-follow : goal.returns-clause-follow
returns-clause-follow c = good_lines_follow
