-- Where the certificate of a planned proposal's parent lies.
use Rattle.std.proofs.Common.{◌≤◌, Bool, true, false, cond, Some, None, Option, arith}
use Rattle.blocks.specs.declared.statement.Statement.{Statement}
use Rattle.member.specs.declared.state.Member.{Member}
use Rattle.member.specs.Propose.{fallback_plan, regular_plan, planned}
use Rattle.member.specs.States.{row_of}
use Rattle.member.specs.Words.{is_in_fallback}

-- a block stands on high's certificate, at place 0 of the shelf, or on that of the own row
own_place : (m : Member) (b : Bool) (certificate : Option Statement) → (cond b (fallback_plan m certificate) (regular_plan m)).base.place ≤ m.site.own
own_place m true None = omega arith
own_place m true (Some s) = omega arith
own_place m false certificate = omega arith

pub planned_place : (m : Member) → (planned m).base.place ≤ m.site.own
planned_place m = own_place m (is_in_fallback m.phase.stage) (row_of m.rows m.site.own).certificate
