use Rattle.std.proofs.Common.{◌≡◌, Ok, refl, subst}
use Rattle.pun_base.specs.Limits.{most_sites}
use Rattle.list_text.proofs.ListGrammar.{lists_are_grammar}
use Rattle.command_io.specs.Verdict.{starts_of, sites_of}
use Rattle.patch_commands.proofs.patch.judge_lists.Goals as goal

pub returns : goal.returns
returns c =
    let x = c.args.inputs in
    let a = subst (λ text. starts_of text ≡ Ok c.in-Ok.starts.items) c.deref.ensures.value c.in-Ok.ensures.list in
    let b = subst (λ text. sites_of text ≡ Ok c.in-Ok-read_sites.sites.items) c.deref-2.ensures.value c.in-Ok-read_sites.ensures.list in
    let starts = (lists_are_grammar 4194304 x.starts.items c.in-Ok.starts.items).0 a in
    let sites = (lists_are_grammar most_sites x.sites.items c.in-Ok-read_sites.sites.items).0 b in
    record {
      file_is = refl;
      starts_are = a;
      sites_are = b;
      starts_ascend = starts.ascending;
      sites_ascend = sites.ascending;
      few_sites = sites.count;
    }
