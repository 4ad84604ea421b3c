use Rattle.std.proofs.Common.{◌≡◌, ◌-◌, length, take, arith, length-take, rules}
use Rattle.plan.specs.Legs.{piers}
use Rattle.plan.specs.Words.{plan_in}
use Rattle.journey.proofs.Naming.{sound_once}
use Rattle.itinerary.specs.Arrivals.{leg_to, walk_to}
use Rattle.itinerary.proofs.SamePlan.{named_once_alike}
use Rattle.serving.proofs.Chained.{chain_cut}
use Rattle.serving.proofs.Fronts.{kept_cut}
use Rattle.serving.proofs.index.Index.ready.Goals as goal

pub invariant_of-result : goal.invariant_of-result
invariant_of-result c =
    let self = c.args.self.now in
    let p = plan_in c.args.table.words.now in
    let f = c.requires.usable.few in
    let n = c.legs-legs.result - 0 in
    let w = c.walks-walks.result - 0 in
    let s = c.piers-piers.result - 0 in
    let legs : length p.legs ≡ n = omega (arith, c.legs-legs.ensures) in
    let walks : length p.walks ≡ w = omega (arith, c.walks-walks.ensures) in
    let many : piers p ≡ s = omega (arith, c.piers-piers.ensures) in
    let cut = kept_cut p self.legs self.joins self.walks self.change self.first self.link f c.requires.kept.laid n w s legs walks many in
    let ec : length self.change ≡ 64 = search rules in
    let el : length self.last_leg ≡ 64 = search rules in
    let ep : length self.prior_leg ≡ 1024 = search rules in
    let same : s ≡ length (take s self.change) = simp length-take (omega (arith, f.piers, many)) in
    let of_legs = chain_cut leg_to self.legs self.last_leg self.prior_leg (length p.legs) (piers p) n s _ legs many same
    (omega (arith, f.legs, self.long_legs)) (omega (arith, f.legs)) (omega (arith, f.piers)) c.requires.kept.coming.of_legs in
    let ew : length self.last_walk ≡ 64 = search rules in
    let ek : length self.prior_walk ≡ 256 = search rules in
    let of_walks = chain_cut walk_to self.walks self.last_walk self.prior_walk (length p.walks) (piers p) w s _ walks many same
    (omega (arith, f.walks, self.long_walks)) (omega (arith, f.walks)) (omega (arith, f.piers)) c.requires.kept.coming.of_walks in
    record {
      arriving = record {
        legs = record { last_long = of_legs.last_long; prior_long = of_legs.prior_long; chains = of_legs.chains };
        walks = record { last_long = of_walks.last_long; prior_long = of_walks.prior_long; chains = of_walks.chains };
      };
      few = cut.few;
      once = named_once_alike cut.alike (sound_once c.requires.usable.sound);
    }
