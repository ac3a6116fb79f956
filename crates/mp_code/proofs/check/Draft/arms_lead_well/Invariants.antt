use Rattle.std.proofs.Common.{◌≡◌, drop, map}
use Rattle.std.specs.List.{list_all}
use Rattle.mp_code.specs.Drafts.{draft_code}
use Rattle.mp_code.specs.Shape.{leads_well, target_of}
use Rattle.mp_code.proofs.check.Draft.arms_lead_well.Given as goal

-- the arms that are left tell for all
abbrev pub invariant-arms : goal.invariant-arms
invariant-arms l =
    list_all (leads_well (draft_code l.fn.self) l.fn.depth) (map target_of (drop l.arm-index l.fn.arms))
    ≡ list_all (leads_well (draft_code l.fn.self) l.fn.depth) (map target_of l.fn.arms)
