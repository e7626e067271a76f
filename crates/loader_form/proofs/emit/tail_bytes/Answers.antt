use Rattle.std.proofs.Common.{◌≡◌, ◌+◌, ◌*◌, ◌^◌, ◌<◌, ◌∙◌, ℕ, List, length, sym, ap, subst, arith}
use Rattle.std.specs.List.{AllByRecursion}
use Rattle.pun_base.specs.declared.range.Range.{Range}
use Rattle.elf_emit.specs.declared.runs.Page.{Page}
use Rattle.elf_emit.specs.declared.runs.Run.{Run}
use Rattle.elf_emit.specs.Emits.{pages_of}
use Rattle.elf_emit.specs.Layout.{runs_of}
use Rattle.loader_form.specs.Laid.{RecordFits}
use Rattle.loader_form.specs.Lay.{stub_count}
use Rattle.loader_form.proofs.LoaderRequests.{is_laid, few_runs, room, records_fit, tail_made}
use Rattle.loader_form.proofs.emit.tail_bytes.Goals as goal

pub stub_pages-requires : goal.stub_pages-requires
stub_pages-requires c =
    let size : length c.args.elf.now.bytes < 2 ^ 63 = (let s = c.file-file.type_inv in let e = ap (λ (z : List ℕ). length z) c.file-file.ensures.value in omega arith) in
    let w = c.requires.loading.1 in
    let b = few_runs w size in
    let e = c.runs.ensures in omega (arith, b, e)

pub stub_bytes-requires : goal.stub_bytes-requires
stub_bytes-requires c =
    let size : length c.args.elf.now.bytes < 2 ^ 63 = (let s = c.file-file.type_inv in let e = ap (λ (z : List ℕ). length z) c.file-file.ensures.value in omega arith) in
    let w = c.requires.loading.1 in
    let runs : c.deref-2.result.now ≡ runs_of (pages_of c.args.groups.now.homes) =
    c.deref-2.ensures.value ∙ c.in_ok-runs.ensures ∙ ap (λ (z : List Page). runs_of z) (c.deref.ensures.value ∙ c.in_ok-pages.ensures.shown) in
    let n = ap (λ (z : List Run). length z) runs in
    let k = is_laid w size in
    let a = k.stub.high in
    let b = k.save.high in
    let r = room w size in
    let st = ap (λ (r : Range). r.lo) c.stub.ensures in
    let sv = ap (λ (r : Range). r.lo) c.save.ensures in
    let pg = c.stub_pages.ensures.value ∙ ap stub_count c.runs.ensures in
    record {
      low = omega (arith, n, a, r, st);
      save = omega (arith, b, sv);
      runs = subst (λ (z : List Run). AllByRecursion (RecordFits c.args.at) z) (sym runs) (records_fit w size c.args.at c.requires.few c.requires.place);
      len = omega (arith, n, r, pg);
    }

pub returns : goal.returns
returns c =
    let size : length c.args.elf.now.bytes < 2 ^ 63 = (let s = c.file-file.type_inv in let e = ap (λ (z : List ℕ). length z) c.file-file.ensures.value in omega arith) in
    let w = c.requires.loading.1 in
    let runs : c.deref-2.result.now ≡ runs_of (pages_of c.args.groups.now.homes) =
    c.deref-2.ensures.value ∙ c.in_ok-runs.ensures ∙ ap (λ (z : List Page). runs_of z) (c.deref.ensures.value ∙ c.in_ok-pages.ensures.shown) in
    let len = ap (λ (n : ℕ). (n + 1) * 4096) (c.stub_pages.ensures.value ∙ ap stub_count c.runs.ensures) in
    tail_made w size c.stub_bytes.result (λ v. v.items) c.args.at _ c.stub.result.lo c.save.result.lo c.entry.result c.deref-2.result.now c.requires.place runs len
    (ap (λ (r : Range). r.lo) c.stub.ensures) (ap (λ (r : Range). r.lo) c.save.ensures) c.entry.ensures c.stub_bytes.ensures
