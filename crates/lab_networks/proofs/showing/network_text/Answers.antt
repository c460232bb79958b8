use Rattle.std.proofs.Common.{codes}
use Rattle.lab_networks.proofs.TextLemmas.{text_joined}
use Rattle.lab_networks.proofs.showing.network_text.Goals as goal

pub returns : goal.returns
returns c =
    rw (c.from_string.ensures, c.in_ok-text.ensures.ok)
    (text_joined
    (codes "{\"Attachable\":false,\"ConfigFrom\":{\"Network\":\"\"},\"ConfigOnly\":false,\"Containers\":{},\"Created\":\"1970-01-01T00:00:00Z\",\"Driver\":\"")
    c.args.driver.now (codes "\",\"EnableIPv6\":false,\"IPAM\":{\"Config\":[],\"Driver\":\"default\",\"Options\":null},\"Id\":\"") c.args.id.now
    (codes "\",\"Ingress\":false,\"Internal\":false,\"Labels\":{},\"Name\":\"") c.args.name.now (codes "\",\"Options\":{},\"Scope\":\"local\"}"))
