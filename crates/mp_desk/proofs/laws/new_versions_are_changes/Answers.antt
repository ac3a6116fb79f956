use Rattle.mp_desk.proofs.DeskLemmas.{edit_changes, whole_changes}
use Rattle.mp_desk.proofs.laws.new_versions_are_changes.Goals as goal

pub returns-clause-edit : goal.returns-clause-edit
returns-clause-edit c = edit_changes

pub returns-clause-whole : goal.returns-clause-whole
returns-clause-whole c = whole_changes
