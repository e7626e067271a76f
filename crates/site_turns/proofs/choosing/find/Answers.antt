use Rattle.std.proofs.Common.{inl, inr, Option, Some, None}
use Rattle.pun_base.specs.declared.outcome.Plan.{Plan}
use Rattle.pun_base.specs.declared.scheme.Scheme.TheVariants as scheme
use Rattle.start_entries.specs.declared.entry.StartEntry.{StartEntry}
use Rattle.start_list.specs.TurnViews.{TurnView}
use Rattle.start_list.specs.Plans.{FirstPlan}
use Rattle.start_list.specs.Forms.{Candidate}
use Rattle.site_turns.specs.Choices.{NoneOf, FirstOf}
use Rattle.site_turns.specs.Laws.{single, five}
use Rattle.site_turns.specs.Turned.{FoundBy}
use Rattle.site_turns.proofs.choosing.find.Goals as goal

-- where the first four schemes have no plan, the fifth decides
last_decides : (v : TurnView) (site : StartEntry) (plan : Option Plan) → NoneOf v site single → FirstPlan v site scheme.T2 None
    → FirstPlan v site scheme.T3 plan → FoundBy v site five plan
last_decides v site None n d e = (n.0, (n.1.0, (n.1.1.0, (d, (e, tt)))))
last_decides v site (Some plan) n d e = (e.0, inr (n.0, inr (n.1.0, inr (n.1.1.0, inr (d, inl (e.1, e.2))))))

-- the plan of one of the first three is the first of all
single_decides : (v : TurnView) (site : StartEntry) (c : Candidate) (plan : Plan) → FirstOf v site single c plan → FirstOf v site five c plan
single_decides v site c plan (inl f) = inl f
single_decides v site c plan (inr (a, inl f)) = inr (a, inl f)
single_decides v site c plan (inr (a, inr (b, inl f))) = inr (a, inr (b, inl f))
single_decides v site c plan (inr (a, inr (b, inr (d, f)))) = absurd f

pub returns-in-Some : goal.returns-in-Some
returns-in-Some c = let f = c.in-Some.ensures in (f.0, single_decides _ _ f.0 _ f.1)

pub returns : goal.returns
returns c = last_decides _ _ c.plan_t3.result c.in_default.ensures c.in_default-plan_t2.ensures c.plan_t3.ensures
