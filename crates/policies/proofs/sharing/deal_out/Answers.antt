use Rattle.std.proofs.Common.{◌≡◌, ◌<◌, length, take, ap, ◌∙◌, arith}
use Rattle.std.proofs.lemmas.List.{length-take, take_all}
use Rattle.entries.specs.Lists.{pool}
use Rattle.policies.specs.Shares.{reshelved}
use Rattle.policies.proofs.Reshelving.{reshelved_length, reshelved_more, reshelved_pool}
use Rattle.policies.proofs.sharing.deal_out.Goals as goal

pub loop-at-init : goal.loop-at-init
unfolding reshelved
loop-at-init g c = c.empty-dealt.ensures

pub push-requires : goal.push-requires
push-requires g c =
    let es = c.as_slice-list.result.now in
    let first = length-take c.loop-at.at es in
    let size = reshelved_length (take c.loop-at.at es) (g.P.Policy.share es) in
    grind arith

pub loop-at-preserved : goal.loop-at-preserved
loop-at-preserved g c =
    let es = c.as_slice-list.result.now in
    let ns = g.P.Policy.share es in
    let is = c.as_slice-list.ensures.list in
    let size = g.met.P.Policy.size c.args.place.now c.requires in
    let there : c.loop-at.at < length ns = grind arith in
    let more = reshelved_more es ns c.loop-at.at c.loop-at-test.true there in
    cc

pub returns : goal.returns
returns g c =
    let es = c.args.place.now in
    let share = g.P.Policy.share in
    let size = g.met.P.Policy.size es c.requires in
    let conserves = g.met.P.Policy.conserves es c.requires in
    let is = c.as_slice-list.ensures.list in
    let all = take_all c.loop-at.at c.as_slice-list.result.now c.loop-at-test.false in
    let list : c.loop-at.dealt ≡ reshelved es (share es) = cc in
    record {
      list = list;
      whole = ap pool list ∙ (reshelved_pool es (share es) size ∙ conserves);
      lawful = record { each = g.met.P.Policy.size; all = g.met.P.Policy.conserves };
    }
