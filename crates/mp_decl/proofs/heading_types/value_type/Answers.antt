use Rattle.std.proofs.Common.{if◌then◌else◌}
use Rattle.mp_tables.specs.Reports.{pure, refuse}
use Rattle.mp_tables.specs.Denoters as rule
use Rattle.mp_tables.proofs.FollowsLemmas.{follows_on}
use Rattle.mp_decl.proofs.heading_types.value_type.Goals as goal

pub returns : goal.returns
returns g c =
    follows_on (rule.typed_here_if c.args.path.now c.args.id) (λ t. rule.by_rule (if rule.file_in t then refuse 320 c.args.at else pure c.args.id)) _ _ _ _ _ _ _ _ c.in_ok-t.ensures c.without_files.ensures
