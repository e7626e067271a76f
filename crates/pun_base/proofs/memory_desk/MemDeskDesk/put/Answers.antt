use Rattle.std.proofs.Common.{rules, ap, ◌∙◌}
use Rattle.pun_base.specs.MemDesk.{MemDeskState, held_by}
use Rattle.pun_base.specs.declared.desk.PutError.TheVariants.{Failed, Memory}
use Rattle.pun_base.proofs.HeldFiles.{others_kept}
use Rattle.pun_base.proofs.JoinedPuts.{grown_by_none}
use Rattle.pun_base.proofs.memory_desk.MemDeskDesk.put.Goals as goal

pub returns-then-is_listed-clause-puts : goal.returns-then-is_listed-clause-puts
returns-then-is_listed-clause-puts c = λ name w. record {
  held = grown_by_none name c.args.bytes.now Failed _ _ (ap (λ (d : MemDeskState). held_by d.files) c.self.view_is);
  others = others_kept name _ _ (ap (λ (d : MemDeskState). held_by d.files) c.self.view_is);
  writing = search rules;
  counts = search rules;
}

pub returns-in-Err-clause-puts : goal.returns-in-Err-clause-puts
returns-in-Err-clause-puts c = λ name w. record {
  held = grown_by_none name c.args.bytes.now Memory _ _ (c.in-Err.ensures.err ∙ ap (λ (d : MemDeskState). held_by d.files) c.self.view_is);
  others = others_kept name _ _ (c.in-Err.ensures.err ∙ ap (λ (d : MemDeskState). held_by d.files) c.self.view_is);
  writing = search rules;
  counts = search rules;
}
